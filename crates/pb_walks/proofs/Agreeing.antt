-- What agrees with itself, and through what it agrees with.
use Rattle.std.proofs.Common.{◌≡◌, List, [], ◌∷◌, Bool, true, false, cond, refl, sym, ◌∙◌}
use Rattle.pb_semantics.specs.Kind.{Slots, recs}
use Rattle.pb_semantics.specs.Well.{Well}
use Rattle.pb_semantics.proofs.Bools.{untrue}
use Rattle.pb_language.specs.Scope.{View, Later, view_of}
use Rattle.pb_language.specs.Judgement.{live}
use Rattle.pb_language.specs.Wells.{WellViews}
use Rattle.pb_language.proofs.Walks.{exit_own, exit_through}
use Rattle.pb_walks.specs.Agree.{SlotsAgree, ViewsAgree, LatersAgree}

-- well formed slots that are below each other
abbrev pub SameSlots : Slots → Slots → Type 0
SameSlots ss ts = SlotsAgree ss ts × Well (recs ss) × Well (recs ts)

pub slots_own : (ss : Slots) → Well (recs ss) → SlotsAgree ss ss
slots_own ss w = (exit_own (live ss) w, exit_own (live ss) w)

pub slots_through : (ss ts us : Slots) → Well (recs ss) → Well (recs ts) → Well (recs us) → SlotsAgree ss ts → SlotsAgree ts us → SlotsAgree ss us
slots_through ss ts us w v u x y = (exit_through (live ss) (live ts) (live us) w v u x.0 y.0, exit_through (live us) (live ts) (live ss) u v w y.1 x.1)

pub either_same : (q r : Bool) (ss ts us ws : Slots) → q ≡ r → SameSlots ss us → SameSlots ts ws → SameSlots (cond q ss ts) (cond r us ws)
either_same true true ss ts us ws e x y = x
either_same true false ss ts us ws e x y = untrue (sym e)
either_same false true ss ts us ws e x y = untrue e
either_same false false ss ts us ws e x y = y

pub views_own : (vs : List View) → WellViews vs → ViewsAgree vs vs
views_own vs w = record { hosts = λ g. refl; slots = λ g. slots_own (view_of g vs) (w g); well = w; well_too = w }

pub views_through : (vs us ws : List View) → ViewsAgree vs us → ViewsAgree us ws → ViewsAgree vs ws
views_through vs us ws x y = record {
  hosts = λ g. x.hosts g ∙ y.hosts g;
  slots = λ g. slots_through (view_of g vs) (view_of g us) (view_of g ws) (x.well g) (x.well_too g) (y.well_too g) (x.slots g) (y.slots g);
  well = x.well;
  well_too = y.well_too;
}

pub laters_own : (ls : List (List Later)) → LatersAgree ls ls
laters_own [] = tt
laters_own (l ∷ ls) = (λ p g x. refl, laters_own ls)
