-- Whole pages and table calls: every one of their calls was accepted. Assumes nothing.
use mathlib.Core.Path.{◌≡◌}
use mathlib.Core.List.{List, [], ◌∷◌, ◌++◌}
use Rattle.turns.specs.Service.{accepted, Service, Entry}
use Rattle.turns.specs.Serial.{Begun, begins, goes_on, Whole, nothing, page, look, change}

module _ (S : Service) where
  unfoldable pub AllAccepted : List (Entry S) → Type 0
  AllAccepted [] = Unit {0}
  AllAccepted (e ∷ es) = (e.mark ≡ accepted) × AllAccepted es

  joined : (es fs : List (Entry S)) → AllAccepted es → AllAccepted fs → AllAccepted (es ++ fs)
  unfolding AllAccepted
  joined [] fs a b = b
  joined (e ∷ es) fs a b = (a.0, joined es fs a.1 b)

  begun-accepted : {k : S.Key} {es : List (Entry S)} → Begun S k es → AllAccepted es
  unfolding AllAccepted
  begun-accepted (begins e m q r) = (m, tt)
  begun-accepted (goes_on es e b m q r) = joined es (e ∷ []) (begun-accepted b) (m, tt)

  pub whole-accepted : {es : List (Entry S)} → Whole S es → AllAccepted es
  unfolding AllAccepted
  whole-accepted nothing = tt
  whole-accepted (page k es e rest b m q r w) =
      joined (es ++ (e ∷ [])) rest (joined es (e ∷ []) (begun-accepted b) (m, tt)) (whole-accepted w)
  whole-accepted (look e rest m q w) = (m, whole-accepted w)
  whole-accepted (change e rest m q w) = (m, whole-accepted w)
