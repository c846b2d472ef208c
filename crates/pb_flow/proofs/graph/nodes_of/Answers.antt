use Rattle.std.proofs.Common.{◌≡◌, ◌∙◌, suc, length, map, subst, ap, sym, arith}
use Rattle.std.proofs.lemmas.List.{length-map}
use Rattle.std.proofs.lemmas.List.Elements.{All-nil}
use Rattle.pb_language.specs.Sites.{gathering_steps, steps_of}
use Rattle.pb_play.specs.Plays.{handler_view, play_view}
use Rattle.pb_play.specs.Sound.{AreSound, handler_tasks}
use Rattle.pb_template.specs.Entries.{entries_view}
use Rattle.pb_language.specs.Book.{Registry}
use Rattle.pb_language.specs.Plays.{play_row}
use Rattle.pb_flow.specs.Build.{IsPut, all_sections_row}
use Rattle.pb_flow.specs.Nodes.{AreVisitedSound, node_step, target_view}
use Rattle.pb_machine.specs.Steps.{leaving, to_node}
use Rattle.pb_flow.specs.Places.{play_places, sections_places}
use Rattle.pb_flow.proofs.Sections.{play-begins, play-has-steps, play-put}
use Rattle.pb_flow.proofs.Sizes.{play-few}
use Rattle.pb_flow.proofs.Sounds.{play-handlers, play-sections, sound-reverse}
use Rattle.pb_flow.proofs.graph.nodes_of.Goals as goal

pub behind-tail-requires-clause-places : goal.behind-tail-requires-clause-places
behind-tail-requires-clause-places c = omega (arith, play-few (play_view c.args.play.now), c.requires.few, c.count_of.ensures.places)

pub put_sections-requires-clause-places : goal.put_sections-requires-clause-places
put_sections-requires-clause-places c =
    let p = play_view c.args.play.now in
    let k : length c.in_ok-scene.scene.handlers.now ≡ length p.handlers = ap length c.in_ok-scene.ensures.handlers ∙ sym (length-map c.args.play.now.handlers.items handler_view) in
    omega (arith, play-few p, c.requires.few, c.count_of.ensures.places, c.behind-tail.ensures.place, ap (λ n. sections_places n p) k)

pub put_gathering-requires-clause-places : goal.put_gathering-requires-clause-places
put_gathering-requires-clause-places c =
    let p = play_view c.args.play.now in
    let k : length c.in_ok-scene.scene.handlers.now ≡ length p.handlers = ap length c.in_ok-scene.ensures.handlers ∙ sym (length-map c.args.play.now.handlers.items handler_view) in
    omega (arith, play-few p, c.requires.few, c.count_of.ensures.places, c.behind-tail.ensures.place, c.in_ok-first.ensures.place, ap (λ n. sections_places n p) k)

-- the whole row was put in front of the end
whole : (c : goal.After-drop-scene-2) (ms : Registry)
    → IsPut ms (entries_view c.args.play.now.vars.items) (play_row ms (play_view c.args.play.now)) 0 (to_node c.behind-tail.result.front) leaving c.behind-tail.result c.put_gathering.new.tail (target_view c.in_ok-begin.begin)
whole c ms =
    let p = play_view c.args.play.now in
    let scene = c.in_ok-scene.scene in
    let k : length scene.handlers.now ≡ length p.handlers = ap length c.in_ok-scene.ensures.handlers ∙ sym (length-map c.args.play.now.handlers.items handler_view) in
    let few : c.count_of.result.places ≡ play_places p = omega (arith, play-few p, c.requires.few, c.count_of.ensures.places) in
    let sections = ap (λ n. sections_places n p) k in
    let mid : c.put_sections.new.tail.place ≡ gathering_steps p.gathering = omega (arith, few, sections, c.behind-tail.ensures.place, c.in_ok-first.ensures.place) in
    let first : c.put_gathering.new.tail.place ≡ 0 = omega (arith, mid, c.in_ok-begin.ensures.place) in
    play-put ms (entries_view c.args.play.now.vars.items) scene c.args.play.now (to_node c.behind-tail.result.front) c.behind-tail.result c.put_sections.new.tail c.put_gathering.new.tail (target_view c.in_ok-first.first) (target_view c.in_ok-begin.begin)
    c.in_ok-scene.ensures.handlers (c.in_ok-scene.ensures.around ms) first mid
    (subst (λ t. IsPut ms (entries_view c.args.play.now.vars.items) (all_sections_row ms (entries_view c.args.play.now.vars.items) scene c.put_sections.new.tail.place p) 0 t leaving c.behind-tail.result c.put_sections.new.tail (target_view c.in_ok-first.first)) c.to_node-end.ensures (c.in_ok-first.ensures.put ms (entries_view c.args.play.now.vars.items)))
    (c.in_ok-begin.ensures.put ms (entries_view c.args.play.now.vars.items))

-- the end follows the nodes
ended : (c : goal.After-drop-scene-2) → c.behind-tail.result.front ≡ suc (steps_of (play_view c.args.play.now))
ended c = omega (arith, c.requires.few, c.count_of.ensures.steps, c.behind-tail.ensures.front)

pub returns-clause-begin : goal.returns-clause-begin
returns-clause-begin c = λ ms.
    play-begins ms (entries_view c.args.play.now.vars.items) (play_view c.args.play.now) c.behind-tail.result c.put_gathering.new.tail (target_view c.in_ok-begin.begin) (ended c) (whole c ms)

pub returns-clause-steps : goal.returns-clause-steps
returns-clause-steps c = λ ms.
    ap (map (node_step ms (entries_view c.args.play.now.vars.items))) c.into_nodes.ensures
    ∙ play-has-steps ms (entries_view c.args.play.now.vars.items) (play_view c.args.play.now) c.behind-tail.result c.put_gathering.new.tail (target_view c.in_ok-begin.begin) (ended c) c.behind-tail.ensures.nodes (whole c ms)

pub returns-clause-sound : goal.returns-clause-sound
returns-clause-sound c = λ ms s.
    let play = c.args.play.now in
    let handlers = subst (λ hs. AreSound ms (handler_tasks hs)) (sym c.in_ok-scene.ensures.handlers) (play-handlers ms play s) in
    let none = subst (AreVisitedSound ms play.gathering) (sym c.behind-tail.ensures.nodes) (All-nil _) in
    let first = c.in_ok-first.ensures.sound.sound ms play.gathering handlers (play-sections ms play s) none in
    sound-reverse ms play.gathering c.put_gathering.new.tail.nodes.items _ c.into_nodes.ensures (c.in_ok-begin.ensures.sound ms first)
