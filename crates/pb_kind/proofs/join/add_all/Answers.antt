use Rattle.std.proofs.Common.{List, map, String, Global, string_bytes, sym, ap, ◌∙◌}
use Rattle.pb_semantics.specs.Join.{add_names, put_name}
use Rattle.pb_kind.proofs.JoinLemmas.{same_names, names-insert_key}
use Rattle.pb_kind.proofs.join.add_all.Goals as goal

pub loop-name-init : goal.loop-name-init
loop-name-init c =
    let few = map (λ (n : String Global). string_bytes n) c.args.few.now.keys in
    ap (add_names few) (sym (same_names c.args.more.now.keys c.in_ok-all.all.keys c.in_ok-all.ensures.cases))
    ∙ ap (λ (ns : List (String Global)). add_names (map (λ n. string_bytes n) ns) (map (λ n. string_bytes n) c.in_ok-all.all.keys)) (sym (c.into_iter-name-iterator.ensures.into_iter_gives ∙ c.iter-name-items.ensures.rest))

pub loop-name-preserved : goal.loop-name-preserved
loop-name-preserved c =
    let l = c.loop-name in
    let left = map (λ (n : String Global). string_bytes n) c.next.new.self in
    let old = map (λ (n : String Global). string_bytes n) l.all.keys in
    l.invariant ∙ ap (λ (ns : List (String Global)). add_names (map (λ n. string_bytes n) ns) old) c.in-Some.ensures.steps
    ∙ ap (λ n. add_names left (put_name n old)) (sym c.in_ok-clone.ensures.cases)
    ∙ ap (add_names left) (sym (names-insert_key l.all.keys c.in_ok-clone.field-0))
    ∙ ap (λ (ns : List (String Global)). add_names left (map (λ n. string_bytes n) ns)) (sym c.in_ok-insert.ensures.keys)
