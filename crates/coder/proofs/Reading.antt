-- The reader of any coder, over any model: what is written is read back, and no two bands have one code. Assumes
-- nothing.
use mathlib.Core.Path.{◌≡◌, refl, sym, ap, ap₂, ◌∙◌, subst}
use mathlib.Core.Logic.{◌≢◌, ◌⊎◌, inl, inr}
use Prim.Native.Nat.{ℕ, ◌-◌, ◌≤◌}
use native.Mathlib.Omega.{arith}
use mathlib.Core.Bool.{Bool, true, false, cond}
use mathlib.Core.List.{List, [], ◌∷◌}
use lib.ListN.{length}
use lib.Dec.{eqb}
use Rattle.ground.proofs.Tests.{same?, if-eq, if-ne}
use Rattle.coder.specs.Writing.{Writer, Model, Stage, step, after, opening, band_code}
use Rattle.coder.proofs.Writing.{AllPels}
use Rattle.coder.specs.Reading.{Reader, pel_of, read_pels}

-- The laws that make a writer and a reader a coder. Ends w c: c is a code on which a run from w can end. Beside r w c:
-- the reader of c stands where the writer does.
pub record IsCoder (W : Writer) (R : Reader) (Sized : ℕ → Type 0) : Type 1 where
  pub Ready : W.State → Type 0
  pub Ends : W.State → List ℕ → Type 0
  pub Beside : R.State → W.State → List ℕ → Type 0
  pub ready-start : Ready W.start
  pub ready-put : (q : ℕ) (e : Bool) (w : W.State) → Sized q → Ready w → Ready (W.put q e w)
  pub ends-here : (w : W.State) → Ready w → Ends w (W.code w)
  pub ends-back : (q : ℕ) (e : Bool) (w : W.State) (c : List ℕ) → Sized q → Ready w → Ends (W.put q e w) c → Ends w c
  pub beside-start : (c : List ℕ) → Ends W.start c → Beside (R.start c) W.start c
  pub asks : (q : ℕ) (e : Bool) (w : W.State) (r : R.State) (c : List ℕ) → Sized q → Ready w → Ends (W.put q e w) c
      → Beside r w c → R.ask q r ≡ e
  pub shifts : (q : ℕ) (e : Bool) (w : W.State) (r : R.State) (c : List ℕ) → Sized q → Ready w
      → Ends (W.put q e w) c → Beside r w c → R.moves q e r ≡ W.moves q e w
  pub takes : (q : ℕ) (e : Bool) (w : W.State) (r : R.State) (c : List ℕ) → Sized q → Ready w → Ends (W.put q e w) c
      → Beside r w c → Beside (R.take q e r) (W.put q e w) c

pel-same : (p s : ℕ) → p ≤ 1 → s ≤ 1 → pel_of s (eqb p s) ≡ p
pel-same p s h k = go (same? p s)
  where
    go : (p ≡ s) ⊎ (p ≢ s) → cond (eqb p s) s (1 - s) ≡ p
    go (inl e) = if-eq p s s (1 - s) e ∙ sym e
    go (inr e) = if-ne p s s (1 - s) e ∙ omega arith

pub pel_of-bit : (s : ℕ) (e : Bool) → s ≤ 1 → pel_of s e ≤ 1
pel_of-bit s true h = h
pel_of-bit s false h = omega arith

module _ (A : Model) where
  -- ---- the round trip
  module _ (W : Writer) (R : Reader) (Sized : ℕ → Type 0) (K : IsCoder W R Sized) (sized : (m : A.State)
      → Sized (A.size m)) (bit : (m : A.State) → A.sense m ≤ 1) where
    abbrev expects : Stage A W → ℕ → Bool
    expects s p = eqb p (A.sense s.model)

    ready-after : (ps : List ℕ) (s : Stage A W) → K.Ready s.writer → K.Ready (after A W s ps).writer
    unfolding after
    ready-after [] s f = f
    ready-after (p ∷ ps) s f =
        ready-after ps (step A W s p) (K.ready-put (A.size s.model) (expects s p) s.writer (sized s.model) f)

    ends-before : (ps : List ℕ) (s : Stage A W) (c : List ℕ) → K.Ready s.writer → K.Ends (after A W s ps).writer
        c → K.Ends s.writer c
    unfolding after
    ends-before [] s c f i = i
    ends-before (p ∷ ps) s c f i =
        K.ends-back (A.size s.model) (expects s p) s.writer c (sized s.model) f
        (ends-before ps (step A W s p) c (K.ready-put (A.size s.model) (expects s p) s.writer
        (sized s.model) f) i)

    -- one pel: the reader says it, and both go on
    record Told (p : ℕ) (s : Stage A W) (r : R.State) (c : List ℕ) : Type 0 where
      pel : pel_of (A.sense s.model) (R.ask (A.size s.model) r) ≡ p
      model : A.move s.model (pel_of (A.sense s.model) (R.ask (A.size s.model) r))
          (R.moves (A.size s.model) (R.ask (A.size s.model) r) r) ≡ (step A W s p).model
      beside : K.Beside (R.take (A.size s.model) (R.ask (A.size s.model) r) r) (step A W s p).writer c

    tells : (p : ℕ) (s : Stage A W) (r : R.State) (c : List ℕ) → p ≤ 1 → K.Ready s.writer
        → K.Ends (step A W s p).writer c → K.Beside r s.writer c → Told p s r c
    tells p s r c h f i g =
        let m : A.State = s.model in
        let w : W.State = s.writer in
        let q : ℕ = A.size m in
        let e : Bool = expects s p in
        let k : R.ask q r ≡ e = K.asks q e w r c (sized m) f i g in
        let l : pel_of (A.sense m) e ≡ p = pel-same p (A.sense m) h (bit m) in
        record {
          pel = ap (pel_of (A.sense m)) k ∙ l;
          model = ap (λ (b : Bool). A.move m (pel_of (A.sense m) b) (R.moves q b r)) k ∙ ap₂ (A.move m) l
              (K.shifts q e w r c (sized m) f i g);
          beside = subst (λ (b : Bool). K.Beside (R.take q b r) (step A W s p).writer c) (sym k)
              (K.takes q e w r c (sized m) f i g);
        }

    reads : (ps : List ℕ) (s : Stage A W) (r : R.State) (c : List ℕ) → AllPels ps → K.Ready s.writer
        → K.Ends (after A W s ps).writer c → K.Beside r s.writer c
        → read_pels A R (length ps) s.model r ≡ ps
    unfolding after read_pels
    reads [] s r c a f i g = refl
    reads (p ∷ ps) s r c a f i g =
        let f₁ : K.Ready (step A W s p).writer = K.ready-put (A.size s.model) (expects s p) s.writer
        (sized s.model) f in
        let t : Told p s r c = tells p s r c a.0 f (ends-before ps (step A W s p) c f₁ i) g in
        ap₂ (λ (y : ℕ) (n : A.State). y ∷ read_pels A R (length ps) n
        (R.take (A.size s.model) (R.ask (A.size s.model) r) r)) t.pel t.model
        ∙ ap (λ (l : List ℕ). p ∷ l)
        (reads ps (step A W s p) (R.take (A.size s.model) (R.ask (A.size s.model) r) r) c a.1 f₁ i
        t.beside)

    -- what a band was written as is read as that band
    pub read-band : (m : A.State) (ps : List ℕ) → AllPels ps → read_pels A R (length ps) m
        (R.start (band_code A W m ps)) ≡ ps
    read-band m ps a =
        let c : List ℕ = band_code A W m ps in
        let i : K.Ends (after A W (opening A W m) ps).writer c = K.ends-here (after A W (opening A W m) ps).writer
        (ready-after ps (opening A W m) K.ready-start) in
        reads ps (opening A W m) (R.start c) c a K.ready-start i
        (K.beside-start c (ends-before ps (opening A W m) c K.ready-start i))

    -- two bands of one length never have one code
    pub no-two-bands : (m : A.State) (ps qs : List ℕ) → AllPels ps → AllPels qs → length ps ≡ length qs
        → band_code A W m ps ≡ band_code A W m qs → ps ≡ qs
    no-two-bands m ps qs a b l e =
        sym (read-band m ps a) ∙ ap₂ (λ (n : ℕ) (c : List ℕ). read_pels A R n m (R.start c)) l e ∙ read-band m qs b

    -- where some band was written as c, the band that is read was
    pub written_read : (m : A.State) (n : ℕ) (c ps : List ℕ) → AllPels ps → length ps ≡ n → band_code A W m ps ≡ c
        → read_pels A R n m (R.start c) ≡ ps
    written_read m n c ps a l e =
        ap₂ (λ (k : ℕ) (d : List ℕ). read_pels A R k m (R.start d)) (sym l) (sym e) ∙ read-band m ps a
