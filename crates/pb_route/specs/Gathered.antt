-- What a task sets by itself that gathers facts.
use Rattle.std.specs.Prelude.{Bool, cond, Option, Some, None, codes}
use Rattle.pb_semantics.specs.Kind.{KindData, Slots, put_slot, slot_at}
use Rattle.pb_semantics.specs.Signature.{ModuleData}
use Rattle.pb_language.specs.Expression.{Name}
use Rattle.pb_language.specs.Cases.{Sets, no_sets, gathered, is_setup, shape_slots}
use Rattle.pb_sig.specs.ModuleView.{known_view}
use Rattle.pb_task.specs.declared.task.Work.{Work}
use Rattle.pb_task.specs.declared.task.Work.TheVariants.{Module}

-- its facts, for certain where that is so
abbrev pub module_sets : ModuleData → Bool → Sets
module_sets m is_certain = cond (is_setup m)
    (gathered is_certain (slot_at (codes "ansible_facts") (shape_slots m.ok))) no_sets

abbrev pub work_sets : Work → Bool → Sets
work_sets (Module m) is_certain = module_sets (known_view m.value) is_certain
work_sets w is_certain = no_sets

-- the slots with that one, where there is a name for it
abbrev pub put_named : Option Name → Bool → KindData → Slots → Slots
put_named None a k ss = ss
put_named (Some n) a k ss = put_slot n a k ss
