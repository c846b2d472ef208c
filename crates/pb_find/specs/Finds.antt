-- What is found of a host on its way.
use Rattle.std.specs.Prelude.{◌≡◌, List, true, ◌&&◌, Option, Some, option_map}
use Rattle.pb_semantics.specs.Kind.{Slots, recs}
use Rattle.pb_semantics.specs.Well.{Well}
use Rattle.pb_language.specs.Expression.{Name}
use Rattle.pb_language.specs.Tables.{visits_below, with_visits}
use Rattle.pb_language.specs.Verdict.{Refusal, code_of, lesser, visits_offence}
use Rattle.pb_language.specs.Walk.{Visit}
use Rattle.pb_kind.specs.KindView.{slots_view}
use Rattle.pb_forms.specs.FitView.{fault_view}
use Rattle.pb_walks.specs.Agree.{SlotsAgree}
use Rattle.pb_walks.specs.Notified.{AllNameHandlers}
use Rattle.pb_find.specs.declared.find.Find.{Find}
use Rattle.pb_find.specs.declared.find.FaultAt.{FaultAt}

abbrev pub offence_of : Name → Option FaultAt → Option Refusal
offence_of h f = option_map
    (λ x. record { code = code_of (fault_view x.unfit); line = x.line; host = Some h }) f

-- what is found once these visits are made, after what was found before
pub record Finds (h : Name) (view : Slots) (vs : List Visit) (old new : Find) : Type 0 where
  pub fault : AllNameHandlers vs
      → offence_of h new.fault ≡ lesser (offence_of h old.fault) (visits_offence h vs)
  pub next : SlotsAgree (slots_view new.next.entries)
      (with_visits vs (slots_view old.next.entries))
  pub well : Well (recs (slots_view new.next.entries))
  pub settled : new.is_settled ≡ old.is_settled && visits_below vs view
  pub same : new.is_same ≡ true
      → (old.is_same ≡ true) × (slots_view new.next.entries ≡ slots_view old.next.entries)
