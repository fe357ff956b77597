-- An open page of a lawful desk has a lawful width and table. Assumes nothing.
use mathlib.Core.Path.{◌≡◌, refl, sym, ◌∙◌}
use Prim.Native.Nat.{ℕ, zero, suc, ◌-◌, ◌≤◌}
use native.Mathlib.Omega.{arith}
use mathlib.Core.Bool.{Bool, true, false, cond, not, ◌&&◌, ◌||◌}
use mathlib.Core.List.{List, [], ◌∷◌}
use lib.Dec.{eqb, leb}
use lib.ListN.{get_or}
use borrow.Author.Tests.{leb-true, eqb-true, eq-eqb}
use Rattle.ground.proofs.Bools.{no_way, both}
use Rattle.estimate.specs.Estimate.{index_of, LawfulTable}
use Rattle.limits.specs.Limits.{max_width}
use Rattle.desk.specs.declared.Key.{Key}
use Rattle.desk.specs.Desk.{Page, Desk}
use Rattle.std.specs.Prelude.{Some}
use Rattle.desk.specs.Places.{is_used, same_key, is_page_of, is_place_of, find_by, is_found, page_found, place_found}
use Rattle.desk.specs.Places.{no_page}
use Rattle.desk.specs.Lawful.{within, all, any, lawful_key, low_indexes, no_stray, lawful_page, lawful_place, apart}
use Rattle.desk.specs.Lawful.{same_pages, same_places, page_has_place, place_has_page, lawful}

pub within_both : (low n high : ℕ) → within low n high ≡ true → (low ≤ n) × (n ≤ high)
within_both low n high e = let b = both (leb low n) (leb n high) e in (leb-true low n b.0, leb-true n high b.1)

-- what holds of every element holds of the one that was found, and so does the test (none is what stands past the end)
module _ {A : Type 0} (test law : A → Bool) (none : A) where
  Good : A → Type 0
  Good x = (law x ≡ true) × (test x ≡ true)

  from : (xs : List A) (b j : ℕ) → all law xs ≡ true → find_by test xs b ≡ Some j → (b ≤ j) × Good (get_or xs (j - b) none)
  unfolding all find_by Good
  from [] b j l f = absurd (let z : ◌≡◌ {A = ℕ} 0 1 = cc in omega arith)
  from (x ∷ xs) b j l f = go (test x) refl f (λ q. from xs (suc b) j (both (law x) (all law xs) l).1 q)
    where
      at : (n : ℕ) → j - b ≡ n → Good (get_or (x ∷ xs) n none) → Good (get_or (x ∷ xs) (j - b) none)
      at n e g = rw e g

      go : (y : Bool) → test x ≡ y → cond y (Some b) (find_by test xs (suc b)) ≡ Some j → (find_by test xs (suc b) ≡ Some j
          → (suc b ≤ j) × Good (get_or xs
          (j - suc b) none))
          → (b ≤ j) × Good (get_or (x ∷ xs) (j - b) none)
      go true t f r = let z : b ≡ j = cc in (omega arith, at 0 (omega arith) ((both (law x) (all law xs) l).0, t))
      go false t f r = let z : suc b ≤ j = (r f).0 in (omega arith, at (suc (j - suc b)) (omega arith) (r f).1)

  at-found : (xs : List A) (i : ℕ) → all law xs ≡ true → find_by test xs 0 ≡ Some i → (law (get_or xs i none) ≡ true)
      × (test (get_or xs i none) ≡ true)
  unfolding Good
  at-found xs i l f = let e : i - 0 ≡ i = omega arith in rw e at (from xs 0 i l f).1

-- every element of a list
pub all-get : {A : Type 0} (p : A → Bool) (s : List A) (i : ℕ) (z : A) → all p s ≡ true → p z ≡ true
    → p (get_or s i z) ≡ true
unfolding all
all-get p [] i z h k = k
all-get p (x ∷ s) zero z h k = (both (p x) (all p s) h).0
all-get p (x ∷ s) (suc i) z h k = all-get p s i z (both (p x) (all p s) h).1 k

low-lawful : (t : List ℕ) → low_indexes t ≡ true → LawfulTable t
low-lawful t l cx = leb-true (index_of (get_or t cx 0)) 29 (all-get (λ e. leb (index_of e) 29) t cx 0 l refl)

-- ---- an open page
pub record LawfulOpen (p : Page) : Type 0 where
  pub some : 1 ≤ p.width
  pub small : p.width ≤ max_width
  pub table : LawfulTable p.table.entries

used-open : (p : Page) → lawful_page p ≡ true → is_used p.state ≡ true → LawfulOpen p
unfolding lawful_page
used-open p l u = parts (within 1 p.width max_width) (low_indexes p.table.entries) (no_stray p.width p.last)
    (leb p.state 2)
    (lawful_key p.key) refl refl (rw u at l)
  where
    parts : (w t s a k : Bool) → within 1 p.width max_width ≡ w → low_indexes p.table.entries ≡ t
        → (a && (k && (w && (t && s)))) ≡ true
        → LawfulOpen p
    parts w t s a k p q e =
        let m = (both k (w && (t && s)) (both a (k && (w && (t && s))) e).1).1 in
        let x = within_both 1 _ max_width (p ∙ (both w (t && s) m).0) in
        record { some = x.0; small = x.1; table = low-lawful _ (q ∙ (both t s (both w (t && s) m).1).0) }

pub lawful-open : (d : Desk) (k : Key) (i : ℕ) → lawful d ≡ true → page_found d k ≡ Some i
    → LawfulOpen (get_or d.pages i no_page)
unfolding lawful
lawful-open d k i l f =
    let a = at-found (is_page_of k) lawful_page no_page d.pages i (both _ _ (both _ _ l).0).0 f in
    used-open (get_or d.pages i no_page) a.0 (both _ _ a.1).0

-- ---- a key is its two numbers
-- a key is the same as itself
pub key-self : (k : Key) → same_key k k ≡ true
key-self k = simp self
  where
    self : (n : ℕ) → eqb n n ≡ true
    self n = eq-eqb n n refl

-- keys that are the same are equal
pub key-only : (j k : Key) → same_key j k ≡ true → j ≡ k
key-only j k h =
    let p = both (eqb j.school k.school) (eqb j.class k.class) h in
    λ i. record { school = eqb-true j.school k.school p.0 i; class = eqb-true j.class k.class p.1 i }

-- ---- an open page has its place
pub found-any : {A : Type 0} (test : A → Bool) (xs : List A) (b : ℕ) → is_found (find_by test xs b) ≡ any test xs
unfolding any find_by
found-any test [] b = refl
found-any test (x ∷ xs) b = go (test x) (found-any test xs (suc b))
  where
    go : (y : Bool) → is_found (find_by test xs (suc b)) ≡ any test xs → is_found (cond y (Some b) (find_by test xs (suc b)))
        ≡ (y || any test xs)
    go true ih = refl
    go false ih = ih

pub page-placed : (d : Desk) (k : Key) (i : ℕ) → lawful d ≡ true → page_found d k ≡ Some i
    → is_found (place_found d k) ≡ true
unfolding lawful
page-placed d k i l f =
    let a = at-found (is_page_of k) (page_has_place d.places) no_page d.pages i
    (third (all lawful_page d.pages && all lawful_place d.places) (apart same_pages d.pages && apart same_places
    d.places) (all
    (page_has_place d.places) d.pages)
    (all (place_has_page d.pages) d.places) l) f in
    let p : Page = get_or d.pages i no_page in
    let u = both (is_used p.state) (same_key p.key k) a.1 in
    found-any (is_place_of k) d.places 0 ∙ has (is_used p.state) u.0 p.key (key-only p.key k u.1) a.0
  where
    third : (a b c e : Bool) → (a && (b && (c && e))) ≡ true → c ≡ true
    third a b c e h = (both c e (both b (c && e) (both a (b && (c && e)) h).1).1).0

    has : (y : Bool) → y ≡ true → (j : Key) → j ≡ k → (not y || any (is_place_of j) d.places) ≡ true
        → any (is_place_of k) d.places ≡ true
    has false u j e h = no_way (sym u)
    has true u j e h = rw e at h
