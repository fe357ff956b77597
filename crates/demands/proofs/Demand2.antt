-- Demand 2 of the calls: what a write answered, read on a page of the same width, working table and last row, with
-- room, gives the pels back. Assumes nothing.
use mathlib.Core.Path.{◌≡◌, refl, sym, ap, ap₂, ◌∙◌, subst}
use mathlib.Core.Bool.{true, false}
use mathlib.Core.Option.{Option, some}
use mathlib.Core.List.{List, [], ◌∷◌, ◌++◌}
use Prim.Native.Nat.{ℕ, ◌*◌, ◌≤◌}
use native.Mathlib.Omega.{arith}
use lib.Dec.{leb}
use lib.ListN.{get_or, length, take, drop, length-append}
use borrow.Author.Tests.{leb-true, eqb-true, le-leb, eq-eqb, le-ltb}
use Rattle.ground.proofs.Bools.{both, not-true}
use Rattle.ground.specs.Options.{or_else}
use Rattle.store.specs.Store.{in_front, front}
use Rattle.template.specs.Pels.{row_bytes, band_padded}
use Rattle.limits.specs.Limits.{max_rows, max_code}
use Rattle.band.specs.Band.{Written, has_room, Finder}
use Rattle.marker.specs.Marker.{marked}
use Rattle.marker.proofs.Never.{code-unmarked}
use Rattle.unique.proofs.OneReader.{right-found, one_reader}
use Rattle.desk.specs.declared.Key.{Key}
use Rattle.desk.specs.declared.Ask.{Ask}
use Rattle.desk.specs.Desk.{Page, Desk, Outcome}
use Rattle.desk.specs.Places.{no_page}
use Rattle.desk.specs.Lawful.{within, lawful_key, lawful}
use Rattle.desk.specs.Refusals.{refusal}
use Rattle.desk.specs.Calls.{writes, reads}
use Rattle.desk.specs.Standing.{Stand, page_of, open_page, stand}
use Rattle.desk.specs.Tests.{band_of, found_in, tests}
use Rattle.desk.specs.Effects.{afterwards, Effect, served_page, serves, effect}
use Rattle.desk.specs.Allowed.{number, effect_on, Allowed}
use Rattle.desk.proofs.KindLaws.{seeing}
use Rattle.desk.proofs.Passed.{passed, passed-after}
use Rattle.kept.proofs.Sound.{lawful-sound}
use Rattle.kept.proofs.Fair.{owned}
use Rattle.kept.proofs.Kept.{call-leaves}
use Rattle.demands.proofs.Demand1.{answers, accepted}
use Rattle.demands.specs.Demand2.{Wrote, code, SameState, ReadBack}

-- what is in front of a buffer is its front part
take-front : (xs ys : List ℕ) → take (length xs) (xs ++ ys) ≡ xs
take-front [] ys = refl
take-front (x ∷ xs) ys = ap (λ (l : List ℕ). x ∷ l) (take-front xs ys)

length_front : (xs ys : List ℕ) → length xs ≤ length (xs ++ ys)
length_front xs ys = omega (arith, length-append xs ys)

front-again : (xs out : List ℕ) → front (length xs) (in_front xs out) ≡ xs
unfolding front in_front
front-again xs out = rw (le-leb (length xs) (length (xs ++ drop (length xs) out))
    (length_front xs (drop (length xs) out))) (take-front xs (drop
    (length xs) out))

module _ (d : Desk) (ask : Ask) (pels out : List ℕ) (r : Outcome) (after : List ℕ)
    (a : Allowed d (writes ask pels out) r after)
    (z : r.answer.number ≡ 0)
    (p : Page) (f : open_page d ask.key ≡ some p) where
  abbrev F : Finder
  F = a.reader.finds

  zero_number : number F d (writes ask pels out) ≡ 0
  unfolding number
  zero_number = sym (answers d (writes ask pels out) r after a) ∙ z

  -- where it is known which page is open
  page-is : page_of (stand d ask.key) ≡ p
  unfolding stand
  page-is = ap (λ (o : Option Page). or_else o no_page) f

  -- every accepted write gives that
  pub wrote : Wrote d ask pels out r after a z p f
  unfolding number tests effect stand has_room
  wrote =
      let s : Stand = stand d ask.key in
      let ts = tests F (writes ask pels out) s in
      let e : refusal ts ≡ 0 = zero_number in
      let w : Written = band_of (page_of s) ask.rows pels in
      let law : lawful d ≡ true = not-true (lawful d) (passed 12 ts refl e) in
      let room = both (leb (length w.code) (length out)) (leb (length w.code) max_code)
      (not-true _ (passed 9 ts refl e)) in
      let (o, l) = accepted d (writes ask pels out) r after a _ zero_number refl in
      record {
        desk_lawful = law;
        rows = not-true (within 1 ask.rows max_rows) (passed 6 ts refl e);
        size = subst (λ (q : Page). length pels ≡ ask.rows * row_bytes q.width) page-is
            (eqb-true (length pels) (ask.rows * row_bytes
            (page_of s).width) (not-true _ (passed-after 7 6 ts refl e)));
        padded = subst (λ (q : Page). band_padded q.width pels ask.rows ≡ true) page-is
            (not-true _ (passed 8 ts refl e));
        short = subst (λ (q : Page). length (band_of q ask.rows pels).code ≤ max_code) page-is
            (leb-true (length w.code) max_code room.1);
        length = ap (λ (o : Outcome). o.answer.length) o
            ∙ ap (λ (q : Page). length (band_of q ask.rows pels).code) page-is;
        shifts = ap (λ (o : Outcome). o.answer.shifts) o ∙ ap (λ (q : Page). (band_of q ask.rows pels).shifts)
            page-is;
        revisits = ap (λ (o : Outcome). o.answer.revisits) o
            ∙ ap (λ (q : Page). (band_of q ask.rows pels).revisits) page-is;
        code = l ∙ ap (λ (q : Page). in_front (band_of q ask.rows pels).code out) page-is;
        page = ap (λ (o : Outcome). open_page o.desk ask.key) a.outcome ∙ (call-leaves a.reader d law
            (writes ask pels out) zero_number).0
            ∙ ap (λ (q : Page). some (served_page q (band_of q ask.rows pels))) page-is;
      }

  code_is : code d ask pels out r after a z p f ≡ (band_of p ask.rows pels).code
  code_is = ap₂ front wrote.length wrote.code ∙ front-again (band_of p ask.rows pels).code out

  -- what was written has no marker
  unmarked : marked (code d ask pels out r after a z p f) ≡ false
  unfolding band_of
  unmarked = ap marked code_is ∙ code-unmarked p.width ask.rows p.table.entries p.last pels

  module _ (octets : (i : ℕ) → get_or pels i 0 ≤ 255) (e : Desk) (ask' : Ask) (out' : List ℕ) (q : Page)
      (g : open_page e ask'.key ≡ some q)
      (same : SameState p q) (law : lawful e ≡ true) (rows : ask.rows ≡ ask'.rows) (way : q.state ≡ 2)
      (room : length pels ≤ length out')
      (r' : Outcome) (after' : List ℕ) (b : Allowed e (reads ask' (code d ask pels out r after a z p f) out') r'
      after') where
    abbrev G : Finder
    G = b.reader.finds

    abbrev seen : Stand
    seen = seeing (some q) (stand e ask'.key)

    -- the band is written as this code from the reading page's state too
    same-band : band_of p ask.rows pels ≡ band_of q ask'.rows pels
    unfolding band_of
    same-band = rw (same.width, same.table, same.last, rows)

    found : found_in G q ask'.rows (code d ask pels out r after a z p f) ≡ some pels
    unfolding found_in band_of
    found =
        ap (λ (h : Finder). h q.width ask'.rows q.table.entries q.last (code d ask pels out r after a z p
        f)) (one_reader b.reader)
        ∙ sym (right-found q.width ask'.rows q.table.entries q.last (code d ask pels out r after a z p f)
        (some pels) (
          record {
            size = wrote.size ∙ rw (same.width, rows);
            padded = rw (← same.width, ← rows) wrote.padded;
            octets = octets;
          },
          ap (λ (w : Written). w.code) (sym same-band) ∙ sym code_is,
        ))

    by-page : {A : Type 0} (h : Stand → A) → h (stand e ask'.key) ≡ h seen
    unfolding stand
    by-page h = ap (λ (o : Option Page). h (seeing o (stand e ask'.key))) g

    -- the key of an open page is lawful
    known : lawful_key ask'.key ≡ true
    unfolding stand
    known =
        let o = (owned e (lawful-sound e law) ask'.key).page q g in
        subst (λ (k : Key). lawful_key k ≡ true) o.1 o.0.key

    number-zero : number G e (reads ask' (code d ask pels out r after a z p f) out') ≡ 0
    unfolding number tests refusal stand
    number-zero =
        let sized : length pels ≡ ask'.rows * row_bytes q.width = wrote.size ∙ rw (same.width, rows) in
        let short : length (code d ask pels out r after a z p f) ≤ max_code = rw code_is wrote.short in
        let fits : ask'.rows * row_bytes q.width ≤ length out' = omega (arith, sized, room) in
        let within : within 1 ask'.rows max_rows ≡ true = rw (← rows) wrote.rows in
        let long = le-ltb max_code (length (code d ask pels out r after a z p f)) short in
        let roomy = le-ltb (length out') (ask'.rows * row_bytes q.width) fits in
        by-page (λ s. refusal (tests G (reads ask' (code d ask pels out r after a z p f) out') s))
        ∙ (rw (law, known, within, long, eq-eqb q.state 2 way, roomy, unmarked, found))

    -- Read from that same state, they give the pels back.
    pub read_back : ReadBack d ask pels out r after a z p f octets e ask' out' q g same law rows way room r' after' b
    unfolding effect served_page
    read_back =
        let w : Written = band_of q ask'.rows pels in
        let n : number G e (reads ask' (code d ask pels out r after a z p f) out') ≡ 0 = number-zero in
        let i : effect_on G e (reads ask' (code d ask pels out r after a z p f) out') ≡ serves q w pels out' =
        by-page (λ s. effect G (reads ask' (code d ask pels out r after a z p f) out') s) ∙ (rw found) in
        let (o, l) = accepted e (reads ask' (code d ask pels out r after a z p f) out') r' after' b _ n i in
        let k : r'.answer.length ≡ length pels = ap (λ (x : Outcome). x.answer.length) o in
        record {
          accepted = ap (λ (x : Outcome). x.answer.number) o;
          length = k;
          shifts = ap (λ (x : Outcome). x.answer.shifts) o ∙ ap (λ (v : Written). v.shifts) (sym same-band)
              ∙ sym wrote.shifts;
          revisits = ap (λ (x : Outcome). x.answer.revisits) o ∙ ap (λ (v : Written). v.revisits) (sym same-band)
              ∙ sym wrote.revisits;
          lent = l;
          again = ap₂ front k l ∙ front-again pels out';
          state = (
            served_page p (band_of p ask.rows pels),
            served_page q w,
            wrote.page,
            ap (λ (x : Outcome). open_page x.desk ask'.key) b.outcome ∙ (call-leaves b.reader e law
                (reads ask' (code d ask pels out r after a z p f) out') n).0
                ∙ ap (λ (x : Effect). afterwards (open_page e ask'.key) x.page) i,
            record {
              width = same.width;
              table = ap (λ (v : Written). v.table) same-band;
              last = ap (λ (v : Written). v.last) same-band;
            },
          );
        }
