-- What the desk needs to know of a call: one law, with a clause for each call. Assumes nothing.
use mathlib.Core.Path.{◌≡◌, refl, ◌∙◌}
use mathlib.Core.Bool.{true, false, not, ◌&&◌}
use Prim.Native.Nat.{ℕ, zero, suc, ◌*◌}
use lib.Dec.{eqb}
use lib.ListN.{length}
use borrow.Author.Tests.{eqb-true}
use Rattle.ground.proofs.Bools.{not-true, and-false}
use Rattle.ground.specs.Options.{given, or_else}
use Rattle.ground.proofs.Options.{none-given}
use Rattle.template.specs.Pels.{row_bytes, band_padded}
use Rattle.limits.specs.Limits.{max_width}
use Rattle.band.specs.Band.{Reader}
use Rattle.desk.specs.Places.{no_page}
use Rattle.desk.specs.Lawful.{within, lawful_key}
use Rattle.desk.specs.Refusals.{refusal}
use Rattle.desk.specs.Calls.{Call, opens, writes, reads, closes, abandons, drops, looks, key_of}
use Rattle.desk.specs.Standing.{Stand, page_of}
use Rattle.desk.specs.Tests.{found_in, tests}
use Rattle.desk.specs.Effects.{fresh_table, effect}
use Rattle.desk.proofs.Passed.{passed, passed-after}
use Rattle.kept.proofs.Fair.{Owned, Fair, held, there, lawful-key, some-rows, new-fair, band-fair, found-fair}
use Rattle.kept.proofs.Fair.{start-lawful}
use Rattle.kept.proofs.Room.{roomy, page_wanted, place_wanted, with_room, ForRoom, quiet-number, Unwanted}
use Rattle.kept.proofs.Room.{open-wants, drop-wants, look-wants, opens-last}

module _ (R : Reader) where
  pub record CallLaw (c : Call) (s : Stand) : Type 0 where
    -- what it does depends on the key's page and learned table alone
    pub same : effect R.finds c (roomy s) ≡ effect R.finds c s
    -- 4 and 5 come last: it is refused for want of room exactly where its other tests pass and the page or place that
    -- it takes anew is not free
    pub other : ForRoom (refusal (tests R.finds c (roomy s))) ≡ false
    pub last : s.sound ≡ true → refusal (tests R.finds c s)
        ≡ with_room (refusal (tests R.finds c (roomy s))) (page_wanted s (effect R.finds c s) && not s.page_free)
        (place_wanted s (effect
        R.finds c s) && not s.place_free)
    -- what an accepted call makes of the page and the table of a lawful desk is lawful again
    pub fair : Owned (key_of c) s → refusal (tests R.finds c s) ≡ 0 → Fair (key_of c) s (effect R.finds c s)

  -- a call that tests no room and takes nothing anew
  no_room : (c : Call) (s : Stand) → (s.sound ≡ true → refusal (tests R.finds c s) ≡ refusal
      (tests R.finds c (roomy s))) → (refusal (tests
      R.finds c (roomy s)) ≡ 0 → Unwanted s (effect R.finds c s))
      → s.sound ≡ true → refusal (tests R.finds c s)
      ≡ with_room (refusal (tests R.finds c (roomy s))) (page_wanted s (effect R.finds c s) && not s.page_free)
      (place_wanted s (effect
      R.finds c s) && not s.place_free)
  no_room c s n u h = n h ∙ go (refusal (tests R.finds c (roomy s))) u
    where
      go : (m : ℕ) → (m ≡ 0 → Unwanted s (effect R.finds c s))
          → m ≡ with_room m (page_wanted s (effect R.finds c s) && not s.page_free)
          (place_wanted s (effect R.finds c s) && not s.place_free)
      go zero h = rw ((h refl).0, (h refl).1)
      go (suc m) h = refl

  pub law : (c : Call) (s : Stand) → CallLaw c s
  unfolding tests effect refusal found_in
  law (opens ask) s =
      record {
        same = refl;
        other = quiet-number (tests R.finds (opens ask) (roomy s)) (rw (and-false (not (given s.learned))));
        last = λ h. rw h (opens-last (not (lawful_key ask.key)) (not (within 1 ask.width max_width)) s.page
            s.learned s.page_free s.place_free _);
        fair =
            λ o e.
            let ts = tests R.finds (opens ask) s in
            record {
              known = lawful-key ask.key (passed 1 ts refl e);
              clean = tt;
              page = new-fair ask (or_else s.learned fresh_table) (lawful-key ask.key (passed 1 ts refl e))
                  (not-true (within 1
                  ask.width max_width) (passed 6 ts refl e)) (start-lawful ask.key s o);
              table = tt;
            };
      }
  law (writes ask pels out) s =
      record {
        same = refl;
        other = quiet-number (tests R.finds (writes ask pels out) (roomy s)) refl;
        last = no_room (writes ask pels out) s (λ h. rw h)
            (λ e. open-wants s (effect R.finds (writes ask pels out) s) (passed 2 (tests
            R.finds (writes ask pels out) (roomy s)) refl e));
        fair =
            λ o e.
            let ts = tests R.finds (writes ask pels out) s in
            record {
              known = lawful-key ask.key (passed 1 ts refl e);
              clean = tt;
              page = band-fair ask.key s o ask.rows pels (there s.page (passed 2 ts refl e))
                  (some-rows ask.rows (passed 6 ts refl e))
                  (eqb-true (length pels) (ask.rows * row_bytes (page_of s).width)
                  (not-true (eqb (length pels) (ask.rows * row_bytes
                  (page_of s).width)) (passed-after 7 6 ts refl e)))
                  (not-true (band_padded (page_of s).width pels ask.rows) (passed 8 ts refl e));
              table = tt;
            };
      }
  law (reads ask code out) s =
      record {
        same = refl;
        other = quiet-number (tests R.finds (reads ask code out) (roomy s)) refl;
        last = no_room (reads ask code out) s (λ h. rw h) (λ e. open-wants s (effect R.finds (reads ask code out) s)
            (passed 2 (tests R.finds
            (reads ask code out) (roomy s)) refl e));
        fair =
            λ o e.
            let ts = tests R.finds (reads ask code out) s in
            record {
              known = lawful-key ask.key (passed 1 ts refl e);
              clean = tt;
              page = found-fair ask.key s o ask.rows code (found_in R.finds (page_of s) ask.rows code)
                  (R.right (page_of s).width
                  ask.rows (page_of s).table.entries (page_of s).last code) (passed 10 ts refl e)
                  (there s.page (passed 2 ts refl e))
                  (some-rows ask.rows (passed 6 ts refl e));
              table = tt;
            };
      }
  law (closes k) s =
      record {
        same = refl;
        other = quiet-number (tests R.finds (closes k) (roomy s)) refl;
        last = no_room (closes k) s (λ h. rw h) (λ e. open-wants s (effect R.finds (closes k) s)
            (passed 2 (tests R.finds (closes k)
            (roomy s)) refl e));
        fair =
            λ o e.
            let ts = tests R.finds (closes k) s in
            record {
              known = lawful-key k (passed 1 ts refl e);
              clean = there s.page (passed 2 ts refl e);
              page = tt;
              table = (o.page (page_of s) (held s.page no_page (there s.page (passed 2 ts refl e)))).0.table;
            };
      }
  law (abandons k) s =
      record {
        same = refl;
        other = quiet-number (tests R.finds (abandons k) (roomy s)) refl;
        last = no_room (abandons k) s (λ h. rw h) (λ e. open-wants s (effect R.finds (abandons k) s)
            (passed 2 (tests R.finds (abandons k)
            (roomy s)) refl e));
        fair =
            λ o e.
            let ts = tests R.finds (abandons k) s in
            record {
              known = lawful-key k (passed 1 ts refl e);
              clean = there s.page (passed 2 ts refl e);
              page = tt;
              table = tt;
            };
      }
  law (drops k) s =
      record {
        same = refl;
        other = quiet-number (tests R.finds (drops k) (roomy s)) refl;
        last = no_room (drops k) s (λ h. rw h)
            (λ e. drop-wants s (passed 3 (tests R.finds (drops k) (roomy s)) refl e));
        fair =
            λ o e.
            let ts = tests R.finds (drops k) s in
            record {
              known = lawful-key k (passed 1 ts refl e);
              clean = (
                none-given s.page (passed 3 ts refl e),
                not-true (given s.learned)
                    (passed 11 ts refl e),
              );
              page = tt;
              table = tt;
            };
      }
  law (looks k out) s =
      record {
        same = refl;
        other = quiet-number (tests R.finds (looks k out) (roomy s)) refl;
        last = no_room (looks k out) s (λ h. rw h) (λ e. look-wants s (effect R.finds (looks k out) s) refl refl);
        fair =
            λ o e.
            record {
              known = lawful-key k (passed 1 (tests R.finds (looks k out) s) refl e);
              clean = tt;
              page = tt;
              table = tt;
            };
      }
