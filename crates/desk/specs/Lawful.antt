-- Document 01: when a desk is lawful, sentence by sentence. Assumes nothing.
use Rattle.std.specs.Prelude.{ℕ, Bool, true, false, cond, not, ◌&&◌, ◌||◌, List, [], ◌∷◌, eqb, leb, drop}
use Rattle.template.specs.Pels.{row_bytes, row_padded}
use Rattle.limits.specs.Limits.{max_key, max_width}
use Rattle.estimate.specs.Estimate.{index_of}
use Rattle.desk.specs.declared.Key.{Key}
use Rattle.desk.specs.Desk.{Page, Place, Desk}
use Rattle.desk.specs.Places.{is_used, no_key, same_key, is_page_of, is_place_of}

-- a number from low to high
abbrev pub within : ℕ → ℕ → ℕ → Bool
within low n high = leb low n && leb n high

-- every element passes
unfoldable pub all : {A : Type 0} → (A → Bool) → List A → Bool
all test [] = true
all test (x ∷ xs) = test x && all test xs

-- some element passes
unfoldable pub any : {A : Type 0} → (A → Bool) → List A → Bool
any test [] = false
any test (x ∷ xs) = test x || any test xs

-- no two of them pass the test together
unfoldable pub apart : {A : Type 0} → (A → A → Bool) → List A → Bool
apart same [] = true
apart same (x ∷ xs) = not (any (same x) xs) && apart same xs

-- each number 1 to 65,535
abbrev pub lawful_key : Key → Bool
lawful_key k = within 1 k.school max_key && within 1 k.class max_key

-- every index is at most 29
abbrev pub low_indexes : List ℕ → Bool
low_indexes t = all (λ e. leb (index_of e) 29) t

-- every number is zero
abbrev pub is_zero : List ℕ → Bool
is_zero xs = all (λ x. eqb x 0) xs

-- a last row of that width has no stray bit: the padding bits of its last byte are 0, and so are the bytes after it
unfoldable pub no_stray : ℕ → List ℕ → Bool
no_stray width last = row_padded width last && is_zero (drop (row_bytes width) last)

-- an open page has a lawful key and width, indexes of at most 29, no stray bit; an unused one is zero
unfoldable pub lawful_page : Page → Bool
lawful_page p =
    cond (is_used p.state)
    (leb p.state 2
    && (lawful_key p.key
    && (within 1 p.width max_width
    && (low_indexes p.table.entries
    && no_stray p.width p.last))))
    (same_key p.key no_key && (eqb p.width 0 && (is_zero p.table.entries && is_zero p.last)))

-- a used place has a lawful key; a learned table's indexes are at most 29; a reserved place's table, and a free place,
-- are zero
unfoldable pub lawful_place : Place → Bool
lawful_place q =
    cond (is_used q.state)
    (leb q.state 2
    && (lawful_key q.key
    && cond (eqb q.state 2) (low_indexes q.table.entries) (is_zero q.table.entries)))
    (same_key q.key no_key && is_zero q.table.entries)

-- both pages are open, under one key
abbrev pub same_pages : Page → Page → Bool
same_pages p q = is_used p.state && is_page_of p.key q

-- both places are used, under one key
abbrev pub same_places : Place → Place → Bool
same_places p q = is_used p.state && is_place_of p.key q

-- an open page has its place
abbrev pub page_has_place : List Place → Page → Bool
page_has_place places p = not (is_used p.state) || any (is_place_of p.key) places

-- a reserved place has its page
abbrev pub place_has_page : List Page → Place → Bool
place_has_page pages q = not (eqb q.state 1) || any (is_page_of q.key) pages

-- A desk is lawful when its pages and places are, different open pages and different used places have different keys,
-- each open page has its place, and each reserved place has its page.
unfoldable pub lawful : Desk → Bool
lawful d =
    (all lawful_page d.pages && all lawful_place d.places)
    && ((apart same_pages d.pages && apart same_places d.places)
    && (all (page_has_place d.places) d.pages && all (place_has_page d.pages) d.places))
