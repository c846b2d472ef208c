use Rattle.std.proofs.Common.{◌≡◌, ◌≤◌, ◌∙◌, ◌+◌, ◌++◌, ◌∷◌, [], ℕ, List, length, map, sum, take, refl, sym, ap, subst, Some, slice_get, arith}
use Rattle.std.proofs.lemmas.List.{map-append, take_all, take_more}
use Rattle.std.proofs.lemmas.Option.{slice_get_read}
use Rattle.pb_language.specs.Plays.{program_of}
use Rattle.pb_language.specs.Program.{all_batches}
use Rattle.pb_inventory.specs.Inventory.{inventory_view}
use Rattle.pb_play.specs.Plays.{cut_view, play_view}
use Rattle.pb_play.specs.declared.play.Play.{Play}
use Rattle.pb_batches.specs.Batches.{batch_view, cut_by}
use Rattle.pb_batches.proofs.Batches.{ArePairs, are-batches, each-within, more-pairs, more-within, parts-within, play-pairs, sizes-few}
use Rattle.pb_batches.proofs.batch.batches_of.Goals as goal

pub add_batches-requires : goal.add_batches-requires
add_batches-requires c =
    let places = c.in_ok-places.places.items in
    let sizes = c.in_ok-sizes.sizes.items in
    let count : length places ≡ c.len.result = omega (arith, c.in_ok-places.places.ok, c.len.ensures) in
    let few : sum sizes ≤ length places = sizes-few (map cut_view c.index-plays-number.result.serial.items) [] places sizes (λ hs e. c.in_ok-sizes.ensures hs (e ∙ count)) in
    rw (c.deref-in-loop-number.ensures.value, c.deref.ensures.value) few

pub loop-number-preserved : goal.loop-number-preserved
loop-number-preserved c =
    let v = inventory_view c.args.inventory.now in
    let plays = c.args.plays.now in
    let n = c.loop-number.number in
    let play = c.index-plays-number.result in
    let places = c.in_ok-places.places.items in
    let sizes = c.in_ok-sizes.sizes.items in
    let olds = map batch_view c.loop-number.batches.items in
    let news = map batch_view c.add_batches.new.batches.items in
    let parts : List (ℕ × List ℕ) = map (λ part. (n, part)) (cut_by sizes places) in
    let count : length places ≡ c.len.result = omega (arith, c.in_ok-places.places.ok, c.len.ensures) in
    let there : slice_get plays n ≡ Some play = slice_get_read plays (length plays) n play refl c.loop-number-test.true c.index-plays-number.is in
    let more : take (n + 1) plays ≡ take n plays ++ play ∷ [] = take_more plays n play c.loop-number-test.true ∙ ap (λ x. take n plays ++ x ∷ []) (sym c.index-plays-number.is) in
    let seen : map play_view (take (n + 1) plays) ≡ map play_view (take n plays) ++ play_view play ∷ [] = ap (map play_view) more ∙ map-append play_view (take n plays) (play ∷ []) in
    let added : news ≡ olds ++ parts =
    c.in_ok-add_batches.ensures ∙ ap (λ (ss : List ℕ). olds ++ map (λ part. (n, part)) (cut_by ss c.deref.result.now)) c.deref-in-loop-number.ensures.value ∙ ap (λ (ps : List ℕ). olds ++ map (λ part. (n, part)) (cut_by sizes ps)) c.deref.ensures.value in
    record {
      batches = λ ms. rw seen (more-pairs ms v plays n play (map play_view (take n plays)) olds news parts added (c.loop-number.invariant.batches ms)
          (play-pairs ms v plays n play places sizes there c.in_ok-places.ensures.hosts (λ hs e. c.in_ok-sizes.ensures hs (e ∙ count))));
      within = more-within (length plays) (length v.hosts) olds news parts added c.loop-number.invariant.within (parts-within (length plays) (length v.hosts) n places sizes c.loop-number-test.true c.in_ok-places.ensures.placed);
    }

pub returns-clause-batches : goal.returns-clause-batches
returns-clause-batches c = λ ms.
    let v = inventory_view c.args.inventory.now in
    let plays = c.args.plays.now in
    let all : take c.loop-number.number plays ≡ plays = take_all c.loop-number.number plays c.loop-number-test.false in
    are-batches ms v plays c.loop-number.batches.items (all_batches (program_of ms v (map play_view plays)))
    (subst (λ (ps : List Play). ArePairs ms v plays (map batch_view c.loop-number.batches.items) (all_batches (program_of ms v (map play_view ps)))) all (c.loop-number.invariant.batches ms))

pub returns-clause-hosts : goal.returns-clause-hosts
returns-clause-hosts c = λ k d lt.
    (each-within (length c.args.plays.now) (length (inventory_view c.args.inventory.now).hosts) c.loop-number.batches.items c.loop-number.invariant.within k d lt).1

pub returns-clause-plays : goal.returns-clause-plays
returns-clause-plays c = λ k d lt.
    (each-within (length c.args.plays.now) (length (inventory_view c.args.inventory.now).hosts) c.loop-number.batches.items c.loop-number.invariant.within k d lt).0
