use Rattle.std.proofs.Common.{◌≡◌, List, Bool, true, ◌&&◌, cond, map, String, Global, string_bytes, sym, ap, ap₂, ◌∙◌}
use Rattle.pb_semantics.specs.Join.{put_name}
use Rattle.pb_semantics.specs.Kind.{slot_at, is_listed}
use Rattle.pb_kind.specs.KindView.{slots_view}
use Rattle.pb_semantics.specs.Grown.{marked, puts, still, is_sure}
use Rattle.pb_kind.specs.Growing.{kinds_view}
use Rattle.pb_kind.proofs.JoinLemmas.{names-insert_key}
use Rattle.pb_semantics.proofs.Ascents.{grown_join}
use Rattle.pb_kind.proofs.GrowLemmas.{ascend_slots, ascend_kinds}
use Rattle.pb_kind.proofs.grow.still_certain.Goals as goal

pub loop-name-preserved-then-has_kind : goal.loop-name-preserved-then-has_kind
loop-name-preserved-then-has_kind c =
    let l = c.loop-name in
    let ss = slots_view c.args.slots.now.entries in
    let ks = kinds_view c.args.kinds.now.entries in
    let left = map (λ (n : String Global). string_bytes n) c.next.new.self in
    let old = map (λ (n : String Global). string_bytes n) l.all.keys in
    let name = string_bytes c.in-Some.name.now in
    let sure : is_sure (slot_at name ss) ≡ true = ap (λ n. is_sure (slot_at n ss)) (sym c.as_str.ensures.value) ∙ sym c.has_certain.ensures ∙ c.if-has_certain.true in
    let there : is_listed name ks ≡ true = ap (λ n. is_listed n ks) (sym c.as_str-then-has_certain.ensures.value) ∙ sym c.has_kind.ensures ∙ c.if-has_kind.true in
    l.invariant ∙ ap (λ (ns : List (String Global)). still (map (λ n. string_bytes n) ns) ss ks old) c.in-Some.ensures.steps
    ∙ ap₂ (λ (x y : Bool). still left ss ks (cond (x && y) (put_name name old) old)) sure there
    ∙ ap (λ n. still left ss ks (put_name n old)) (sym c.in_ok-clone.ensures.cases)
    ∙ ap (still left ss ks) (sym (names-insert_key l.all.keys c.in_ok-clone.field-0))
    ∙ ap (λ (ns : List (String Global)). still left ss ks (map (λ n. string_bytes n) ns)) (sym c.in_ok-insert.ensures.keys)

pub returns : goal.returns
returns c = λ leads.
    let l = c.loop-name in
    let ss = slots_view c.args.slots.now.entries in
    let ks = kinds_view c.args.kinds.now.entries in
    let names = map (λ (n : String Global). string_bytes n) l.all.keys in
    ap (marked (puts leads ss ks)) (sym (l.invariant ∙ ap (λ (ns : List (String Global)). still (map (λ n. string_bytes n) ns) ss ks names) c.in-None.ensures.steps.0))
    ∙ grown_join leads ss ks (map (λ (n : String Global). string_bytes n) c.args.certain.now.keys) (ascend_slots c.args.slots.now.entries c.iter.ensures.ordered) (ascend_kinds c.args.kinds.now.entries c.iter-2.ensures.ordered)
