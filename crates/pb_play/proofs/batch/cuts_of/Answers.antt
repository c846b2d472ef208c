use Rattle.std.proofs.Common.{◌≡◌, ◌∙◌, ◌++◌, ◌∷◌, ◌-◌, [], List, ℕ, map, ap, sym}
use Rattle.std.proofs.Math.Seq.{append_snoc}
use Rattle.pb_language.specs.Book.{Cut}
use Rattle.pb_language.specs.Plays.{next_cuts}
use Rattle.pb_play.specs.Batches.{sizes_left}
use Rattle.pb_play.specs.Plays.{cut_view}
use Rattle.pb_play.proofs.Batches.{next-batch}
use Rattle.pb_play.proofs.batch.cuts_of.Goals as goal

pub batches-preserved : goal.batches-preserved
batches-preserved c =
    let l = c.batches in
    let n = c.args.hosts in
    let es = map cut_view l.entries.now in
    let s = c.batch_size-size.result in
    let next = next-batch n l.invariant.0 es l.left s c.batches-test.true l.invariant.1 c.batch_size-size.ensures.size in
    let rest = sizes_left n next.0 (next_cuts es) (l.left - s) in
    let all : c.push.new.self.items ≡ l.sizes.items ++ s ∷ [] = c.in_ok-push.ensures.items in (
      next.0,
      next.1,
      l.invariant.2 ∙ ap (λ xs. l.sizes.items ++ xs) next.2 ∙ sym (append_snoc l.sizes.items s rest) ∙ ap (λ (xs : List ℕ). xs ++ rest) (sym all)
          ∙ ap (λ (cs : List Cut). c.push.new.self.items ++ sizes_left n next.0 cs (l.left - s)) (sym c.without_first-entries.ensures),
    )
