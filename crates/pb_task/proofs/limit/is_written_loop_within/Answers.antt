use Rattle.std.proofs.Common.{◌≡◌, ◌∙◌, ◌&&◌, true, false, leb, ap, sym}
use Rattle.pb_value.specs.View.{items_view}
use Rattle.std.proofs.lemmas.Bool.{le-leb, lt-leb}
use Rattle.pb_value.proofs.Fields.{count_of-items_view}
use Rattle.pb_semantics.specs.Data.{count_of}
use Rattle.std.proofs.Common.{length}
use Rattle.pb_language.specs.Texts.{are_list_within}
use Rattle.pb_task.proofs.limit.is_written_loop_within.Goals as goal

pub returns-then-items-le-MOST_LOOP_ITEMS : goal.returns-then-items-le-MOST_LOOP_ITEMS
returns-then-items-le-MOST_LOOP_ITEMS c =
    let vs = c.args.items.now in
    let few : leb (count_of (items_view vs)) 1024 ≡ true = ap (λ n. leb n 1024) (count_of-items_view vs) ∙ le-leb (length vs) 1024 c.if-items-le-MOST_LOOP_ITEMS.true in
    c.is_list_within.ensures ∙ sym (ap (λ q. q && are_list_within (items_view vs)) few)

pub returns-else-items-le-MOST_LOOP_ITEMS : goal.returns-else-items-le-MOST_LOOP_ITEMS
returns-else-items-le-MOST_LOOP_ITEMS c =
    let vs = c.args.items.now in
    let many : leb (length vs) 1024 ≡ false = lt-leb (length vs) 1024 c.if-items-le-MOST_LOOP_ITEMS.false in
    many ∙ sym (ap (λ q. q && are_list_within (items_view vs)) (ap (λ n. leb n 1024) (count_of-items_view vs) ∙ many))
