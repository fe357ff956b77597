-- Zeros at a code's end: a reader reads the same pels with any number of them, since past the end a byte is 0. So of
-- the codes that differ only there, one at the most is a band's. Assumes nothing.
use mathlib.Core.Path.{◌≡◌, refl, sym, ap, ◌∙◌}
use Prim.Native.Nat.{ℕ, zero, suc, ◌+◌, ◌-◌, ◌*◌, ◌%◌, ◌^◌}
use native.Mathlib.Omega.{arith}
use mathlib.Core.Bool.{Bool, true, false}
use mathlib.Core.List.{List, [], ◌∷◌, ◌++◌}
use lib.ListN.{length, drop, get_or, replicate, length-append, length-replicate}
use lib.Dec.{ltb, eqb}
use Rattle.ground.proofs.Tests.{by-cond₂}
use Rattle.coder.specs.Reading.{read_pels, pel_of}
use Rattle.coder.specs.Page.{Page, size, sense, move}
use Rattle.octets.specs.Octets.{bits}
use Rattle.exact.specs.Sight.{Sight, opened, more, nearer, supplied, seek, decide, taken}
use Rattle.template.specs.Pels.{band_to}
use Rattle.band.specs.Band.{q_scheme, q_page, page_at, written}
use Rattle.unique.specs.QCoder.{q_reader}
use Rattle.unique.proofs.BandPels.{reads-written, code-of-pels}

-- the same bytes, where past the end a byte is 0
abbrev Same : List ℕ → List ℕ → Type 0
Same xs ys = (i : ℕ) → get_or xs i 0 ≡ get_or ys i 0

drop-one : (xs : List ℕ) (i : ℕ) → get_or (drop 1 xs) i 0 ≡ get_or xs (suc i) 0
drop-one [] i = refl
drop-one (x ∷ xs) i = refl

same_drop : (xs ys : List ℕ) → Same xs ys → Same (drop 1 xs) (drop 1 ys)
same_drop xs ys h i = drop-one xs i ∙ h (suc i) ∙ sym (drop-one ys i)

drop-two : (xs : List ℕ) → drop 2 xs ≡ drop 1 (drop 1 xs)
drop-two [] = refl
drop-two (x ∷ xs) = refl

zeros : (n i : ℕ) → get_or {A = ℕ} (replicate n 0) i 0 ≡ 0
zeros zero i = refl
zeros (suc n) zero = refl
zeros (suc n) (suc i) = zeros n i

same-zeros : (xs : List ℕ) (n : ℕ) → Same xs (xs ++ replicate n 0)
same-zeros [] n i = sym (zeros n i)
same-zeros (x ∷ xs) n zero = refl
same-zeros (x ∷ xs) n (suc i) = same-zeros xs n i

-- ---- a reader that has other bytes to come
abbrev seen : Sight → List ℕ → Sight
seen r us = record { width = r.width; x = r.x; look = r.look; last = r.last; unread = us }

-- v is u but for the bytes to come, and those are the same
record Alike (v u : Sight) : Type 0 where
  unread : List ℕ
  is : v ≡ seen u unread
  same : Same u.unread unread

alike-more : (r : Sight) (us : List ℕ) → Same r.unread us → Alike (more (seen r us)) (more r)
alike-more r us h =
    record {
      unread = drop 1 us;
      is = λ i. record {
        width = r.width;
        x = (r.x * 2 ^ bits r.last + sym (h 0) i) % 2 ^ 32;
        look = r.look + bits r.last;
        last = sym (h 0) i;
        unread = drop 1 us;
      };
      same = same_drop r.unread us h;
    }

alike-supplied : (r : Sight) (us : List ℕ) → Same r.unread us → Alike (supplied (seen r us)) (supplied r)
unfolding supplied
alike-supplied r us h =
    by-cond₂ Alike (eqb r.look 0) (more (seen r us)) (seen r us) (more r) r (λ t. alike-more r us h)
    (λ t. record { unread = us; is = refl; same = h })

-- a step, and then alike
alike_then : (f : Sight → Sight) (v u : Sight) (a : Alike v u) → Alike (f (seen u a.unread)) (f u)
    → Alike (f v) (f u)
alike_then f v u a k = record { unread = k.unread; is = ap f a.is ∙ k.is; same = k.same }

alike-seek : (n : ℕ) (r : Sight) (us : List ℕ) → Same r.unread us → Alike (seek n (seen r us)) (seek n r)
unfolding seek
alike-seek zero r us h = record { unread = us; is = refl; same = h }
alike-seek (suc n) r us h =
    let a = alike-supplied r us h in
    by-cond₂ Alike (ltb r.width 0x1000) (seek n (nearer (supplied (seen r us)))) (seen r us)
    (seek n (nearer (supplied r))) r
    (λ t. alike_then (λ v. seek n (nearer v)) (supplied (seen r us)) (supplied r) a
    (alike-seek n (nearer (supplied r)) a.unread a.same)) (λ t. record { unread = us; is = refl; same = h })

alike-taken : (q : ℕ) (e : Bool) (r : Sight) (us : List ℕ) → Same r.unread us
    → Alike (seek 12 (taken q e (seen r us))) (seek 12 (taken q e r))
alike-taken q true r us h = alike-seek 12 (taken q true r) us h
alike-taken q false r us h = alike-seek 12 (taken q false r) us h

moves-alike : (q : ℕ) (e : Bool) (r : Sight) (us : List ℕ) → (taken q e (seen r us)).width ≡ (taken q e r).width
moves-alike q true r us = refl
moves-alike q false r us = refl

-- ---- it reads the same pels
module _ (width : ℕ) where
  abbrev reads : ℕ → Page → Sight → List ℕ
  reads n m r = read_pels (q_page width) q_reader n m r

  reads-alike : (n : ℕ) (m : Page) (r : Sight) (us : List ℕ) → Same r.unread us → reads n m (seen r us)
      ≡ reads n m r
  unfolding read_pels decide
  reads-alike zero m r us h = refl
  reads-alike (suc n) m r us h =
      let q : ℕ = size q_scheme width m in
      let e : Bool = decide q r in
      let p : ℕ = pel_of (sense q_scheme width m) e in
      let a = alike-taken q e r us h in
      ap (λ (l : List ℕ). p ∷ l)
      (ap (λ (k : ℕ). reads n (move q_scheme width m p (ltb k 0x1000)) (seek 12 (taken q e (seen r us))))
      (moves-alike q e r us)
      ∙ ap (reads n (move q_scheme width m p (ltb (taken q e r).width 0x1000))) a.is
      ∙ reads-alike n (move q_scheme width m p (ltb (taken q e r).width 0x1000)) (seek 12 (taken q e r)) a.unread
      a.same)

  opened-alike : (c d : List ℕ) → Same c d → Alike (opened d) (opened c)
  opened-alike c d h =
      record {
        unread = drop 2 d;
        is = λ i. record {
          width = 0x1000;
          x = sym (h 0) i * 2 ^ bits (sym (h 0) i) + sym (h 1) i;
          look = bits (sym (h 0) i) - 4;
          last = sym (h 1) i;
          unread = drop 2 d;
        };
        same = λ i. ap (λ (l : List ℕ). get_or l i 0) (drop-two c)
            ∙ same_drop (drop 1 c) (drop 1 d) (same_drop c d h) i ∙ ap (λ (l : List ℕ). get_or l i 0) (sym (drop-two d));
      }

  zeros-unread : (n k : ℕ) (m : Page) (c : List ℕ) → reads n m (opened (c ++ replicate k 0)) ≡ reads n m (opened c)
  zeros-unread n k m c =
      let a = opened-alike c (c ++ replicate k 0) (same-zeros c k) in
      ap (reads n m) a.is ∙ reads-alike n m (opened c) a.unread a.same

-- Two bands of one size, from one table and last row: if their codes differ only in zeros at the end, they do not
-- differ there either.
pub end-told : (width rows : ℕ) (table last a b c : List ℕ) (m n : ℕ)
    → (written width rows table last a).code ≡ c ++ replicate m 0
    → (written width rows table last b).code ≡ c ++ replicate n 0 → m ≡ n
end-told width rows table last a b c m n ea eb =
    let k : ℕ = rows * width in
    let pg : Page = page_at width table last in
    let pa = reads-written width rows table last (c ++ replicate m 0) a ea in
    let pb = reads-written width rows table last (c ++ replicate n 0) b eb in
    let same : band_to width a rows ≡ band_to width b rows =
    sym pa ∙ zeros-unread width k m pg c ∙ sym (zeros-unread width k n pg c) ∙ pb in
    let e : c ++ replicate m 0 ≡ c ++ replicate n 0 =
    sym ea ∙ code-of-pels width rows table last a b same ∙ eb in
    sizes (ap length e)
  where
    sizes : length (c ++ replicate m 0) ≡ length (c ++ replicate n 0) → m ≡ n
    sizes e =
        omega (
          arith,
          length-append c (replicate m 0),
          length-append c (replicate n 0),
          length-replicate {A = ℕ} m 0,
          length-replicate {A = ℕ} n 0,
        )
