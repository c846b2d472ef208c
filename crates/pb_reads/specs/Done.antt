-- What a task of a book evaluates where it stands.
use Rattle.std.specs.Prelude.{codes}
use Rattle.pb_language.specs.Book.{TaskData, Work, assert_work, debug_work, fail_work, module_work}
use Rattle.pb_language.specs.Book.{set_fact_work}
use Rattle.pb_language.specs.Expansion.{part_named}
use Rattle.pb_language.specs.Expression.{Expressions}
use Rattle.pb_language.specs.Plays.{append_expressions}
use Rattle.pb_language.specs.Rules.{asserted_expressions, give_expressions, option_expressions}
use Rattle.pb_language.specs.Rules.{part_expressions}

abbrev pub done_expressions : Work → Expressions
done_expressions (module_work n ps) = part_expressions ps
done_expressions (debug_work ps) = option_expressions (part_named (codes "msg") ps)
done_expressions (set_fact_work ps) = part_expressions ps
done_expressions (assert_work a ps) = append_expressions (asserted_expressions a)
    (option_expressions (part_named (codes "fail_msg") ps))
done_expressions (fail_work ps) = option_expressions (part_named (codes "msg") ps)

-- the list, the conditions, the work, and what is made of the result
abbrev pub evaluated : Expressions → TaskData → Expressions
evaluated cs t = append_expressions (option_expressions t.loop)
    (append_expressions cs (append_expressions (done_expressions t.work) (give_expressions t)))
