use Rattle.std.proofs.Common.{◌≡◌, ◌++◌, ◌∙◌, map, sym, ap}
use Rattle.pb_semantics.specs.Keeps.{is_among}
use Rattle.pb_reads.specs.Reached.{names_in}
use Rattle.pb_rules.proofs.NameSets.{among-insert, texts}
use Rattle.pb_steps.proofs.Used.{adds-all, among-moved}
use Rattle.pb_steps.proofs.nodes.add_all.Goals as goal

pub loop-name-init : goal.loop-name-init
loop-name-init c n = ap (λ ks. is_among n (map (λ k. k.now) ks ++ names_in c.args.names.now)) (c.into_iter-name-iterator.ensures.into_iter_gives ∙ c.iter-name-items.ensures.rest)

pub loop-name-preserved : goal.loop-name-preserved
loop-name-preserved c n =
    among-moved n c.in-Some.name.now.now (texts c.next.new.self) (names_in c.loop-name.names) (names_in c.insert.new.self) (ap (λ ks. is_among n (texts ks)) c.in_ok-insert.ensures.keys ∙ among-insert n c.in-Some.name.now c.loop-name.names.keys)
    ∙ ap (λ ks. is_among n (texts ks ++ names_in c.loop-name.names)) (sym c.in-Some.ensures.steps) ∙ c.loop-name.invariant n

pub returns : goal.returns
returns c =
    adds-all (names_in c.args.more.now) (names_in c.args.names.now) (names_in c.loop-name.names)
    (λ n. ap (λ ks. is_among n (map (λ k. k.now) ks ++ names_in c.loop-name.names)) (sym c.in-None.ensures.steps.0) ∙ c.loop-name.invariant n)
