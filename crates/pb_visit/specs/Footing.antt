-- What is known on the ground of a task, and the scopes in which its parts are asked there.
use Rattle.std.specs.Prelude.{ℕ, [], Option}
use Rattle.pb_semantics.specs.Kind.{KindData, Slots}
use Rattle.pb_language.specs.Expansion.{trees}
use Rattle.pb_language.specs.Expression.{Name, Parts}
use Rattle.pb_language.specs.Judgement.{Exit}
use Rattle.pb_language.specs.Scope.{Scope}
use Rattle.pb_language.specs.Setting.{Setting, named_slots, scope_at, with_item}
use Rattle.pb_lattice.specs.Environments.{exit_of}
use Rattle.pb_vars.specs.InScope.{in_scope}
use Rattle.pb_vars.specs.declared.in_scope.InScope.{InScope}
use Rattle.pb_taught.specs.Before.{Before}
use Rattle.pb_outlook.specs.Standing.{known_of, with_result}
use Rattle.pb_visit.specs.declared.visit.Visit.{Visit}

pub record Footing : Type 0 where
  pub setting : Setting
  pub vars : Parts
  pub env : Slots
  pub place : ℕ
  pub depth : ℕ

abbrev pub footing : Setting → InScope → Exit → ℕ → ℕ → Footing
footing st vars e place depth = record {
  setting = st;
  vars = in_scope vars;
  env = known_of e;
  place = place;
  depth = depth;
}

abbrev pub visit_footing : Setting → Visit → Footing
visit_footing st v = let s = v.station.now in
    footing st s.vars (exit_of v.space.now v.at) s.place s.around.value.depth

-- at the loop
abbrev pub loop_on : Footing → Scope
loop_on f = scope_at f.setting f.setting.laters f.place (named_slots f.setting f.depth f.env)

-- for an item, where the loop is of that kind
abbrev pub item_on : Footing → Option KindData → Scope
item_on f over = scope_at f.setting f.setting.laters f.place
    (with_item over (named_slots f.setting f.depth f.env))

-- where a result of that kind is judged
abbrev pub end_on : Footing → Option KindData → Option Name → KindData → Scope
end_on f over register k = scope_at f.setting [] f.place
    (with_result register k (with_item over (named_slots f.setting f.depth f.env)))

-- before any test of an item
abbrev pub before_on : Footing → Option KindData → Before
before_on f over = record { scope = item_on f over; trees = trees f.vars }
