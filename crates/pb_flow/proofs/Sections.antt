-- Sections in front of others, and a play's own.
use Rattle.std.proofs.Common.{◌≡◌, ◌∙◌, ℕ, suc, ◌+◌, Bool, true, false, cond, List, [], ◌∷◌, ◌++◌, map, reverse, is_some, Option, Some, None, length, refl, ap, ap₂, sym, subst, arith, append-nil}
use Rattle.std.proofs.lemmas.List.{length-map}
use Rattle.pb_language.specs.Book.{PlayData, Registry, Steps}
use Rattle.pb_language.specs.Links.{goes, fails, passes, link_to}
use Rattle.pb_language.specs.Expression.{Parts}
use Rattle.pb_language.specs.Plays.{Surroundings, ended_row, gathered_row, handlers_at, is_given, places_in, play_row, play_surroundings, row_of, section_row}
use Rattle.pb_language.specs.Sites.{gathering_steps, steps_of}
use Rattle.pb_language.specs.Task.{Task, Handlers, Row, end, flush, section}
use Rattle.pb_play.specs.Plays.{handler_view, play_view}
use Rattle.pb_play.specs.declared.play.Play.{Play}
use Rattle.pb_flow.specs.Build.{IsPut, all_sections_row, gathering_row, handlers_from, one_section_row}
use Rattle.pb_machine.specs.Steps.{Step, Target, leaving, to_node, end_target, row_target, row_steps, play_begin, play_steps}
use Rattle.pb_machine.specs.Laws.{passing_links, steps_links}
use Rattle.pb_machine.proofs.Edges.{steps_lead_along_links}
use Rattle.pb_flow.specs.Flow.{begins_at, end_node, row_links, tasks_of}
use Rattle.pb_flow.specs.Nodes.{around_view, node_step, node_task, nodes_links}
use Rattle.pb_flow.specs.declared.graph.Node.{Node}
use Rattle.pb_flow.specs.Places.{section_places}
use Rattle.pb_flow.specs.declared.scene.Scene.{Scene}
use Rattle.pb_flow.specs.declared.tail.Tail.{Tail}
use Rattle.pb_machine.specs.Joins.{joined}
use Rattle.pb_machine.proofs.Joins.{step-tasks}
use Rattle.pb_flow.proofs.Joins.{joined-assoc, row-joined}
use Rattle.pb_flow.proofs.Puts.{put-joined}
use Rattle.pb_flow.proofs.Sizes.{play-nodes}

-- a section before what follows it
pub section-joined : (hs : ℕ → Handlers) (n : ℕ) (s : Surroundings) (forces : Bool) (p q : ℕ) (ss : Steps) (go : ℕ → Row) → p + section_places n ss ≡ q
    → section_row hs n s forces p ss go ≡ joined (section_row hs n s forces p ss (λ t. end)) (go q)
section-joined hs n s forces p q ss go e = at (is_given ss) forces e where
  row : Row → Row
  row = row_of hs n s p ss

  at : (given forces : Bool) → p + cond given (places_in n ss + n) 0 ≡ q
      → cond given (ended_row forces (hs (places_in n ss + p)) row (go (n + (places_in n ss + p)))) (go p) ≡ joined (cond given (ended_row forces (hs (places_in n ss + p)) row end) end) (go q)
  at false forces e = let k : p ≡ q = omega arith in ap go k
  at true true e = let k : n + (places_in n ss + p) ≡ q = omega arith in ap (λ k. section (row end) (hs (places_in n ss + p)) (go k)) k
  at true false e =
      let k : n + (places_in n ss + p) ≡ q = omega arith in
      let h = hs (places_in n ss + p) in
      ap (λ k. row (flush h (go k))) k ∙ row-joined hs n s p ss (flush h (go q)) ∙ sym (joined-assoc (row end) (flush h end) (go q)) ∙ ap (λ r. joined r (go q)) (sym (row-joined hs n s p ss (flush h end)))

-- the three sections, the last one first
pub sections-put : (ms : Registry) (vars : Parts) (scene : Scene) (play : PlayData) (after : Target) (old one two new : Tail) (x y at : Target)
    → two.place + section_places (length scene.handlers.now) play.tasks ≡ one.place → new.place + section_places (length scene.handlers.now) play.pre_tasks ≡ two.place
    → IsPut ms vars (one_section_row ms vars scene play.forces one.place play.post_tasks) 0 after leaving old one x
    → IsPut ms vars (one_section_row ms vars scene play.forces two.place play.tasks) 0 x leaving one two y
    → IsPut ms vars (one_section_row ms vars scene play.forces new.place play.pre_tasks) 0 y leaving two new at
    → IsPut ms vars (all_sections_row ms vars scene new.place play) 0 after leaving old new at
sections-put ms vars scene play after old one two new x y at e f h i j =
    let hs = handlers_from ms vars scene in
    let n = length scene.handlers.now in
    let s = around_view ms vars scene.part.around.value in
    let third : ℕ → Row = λ r. section_row hs n s play.forces r play.post_tasks (λ t. end) in
    let second : ℕ → Row = λ q. section_row hs n s play.forces q play.tasks third in
    let a = section_row hs n s play.forces new.place play.pre_tasks (λ t. end) in
    let b = section_row hs n s play.forces two.place play.tasks (λ t. end) in
    let same : section_row hs n s play.forces new.place play.pre_tasks second ≡ joined a (joined b (third one.place)) =
    section-joined hs n s play.forces new.place two.place play.pre_tasks second f ∙ ap (joined a) (section-joined hs n s play.forces two.place one.place play.tasks third e) in
    subst (λ r. IsPut ms vars r 0 after leaving old new at) (sym same)
    (put-joined ms vars a (joined b (third one.place)) 0 after leaving old two new y at (put-joined ms vars b (third one.place) 0 after leaving old one two x y h i) j)

-- the gathering before the sections
gathering-joined : (ms : Registry) (vars : Parts) (scene : Scene) (play : PlayData) (g : Option ℕ) → joined (gathering_row ms vars scene 0 g) (all_sections_row ms vars scene (gathering_steps g) play)
    ≡ gathered_row (handlers_from ms vars scene) (length scene.handlers.now) (around_view ms vars scene.part.around.value) play g
gathering-joined ms vars scene play None = refl
gathering-joined ms vars scene play (Some l) = refl

-- that is the play's row
own-row : (ms : Registry) (vars : Parts) (scene : Scene) (play : Play) → scene.handlers.now ≡ play.handlers.items → around_view ms vars scene.part.around.value ≡ play_surroundings ms (play_view play)
    → gathered_row (handlers_from ms vars scene) (length scene.handlers.now) (around_view ms vars scene.part.around.value) (play_view play) play.gathering ≡ play_row ms (play_view play)
own-row ms vars scene play e f =
    let s = play_surroundings ms (play_view play) in
    let n = length scene.handlers.now in
    ap (λ x. gathered_row (λ p. handlers_at x 0 p (map handler_view scene.handlers.now)) n x (play_view play) play.gathering) f
    ∙ ap (λ hs. gathered_row (λ p. handlers_at s 0 p (map handler_view hs)) n s (play_view play) play.gathering) e
    ∙ ap (λ k. gathered_row (λ p. handlers_at s 0 p (map handler_view play.handlers.items)) k s (play_view play) play.gathering) (ap length e ∙ sym (length-map play.handlers.items handler_view))

pub play-put : (ms : Registry) (vars : Parts) (scene : Scene) (play : Play) (to : Target) (old mid new : Tail) (x at : Target) → scene.handlers.now ≡ play.handlers.items
    → around_view ms vars scene.part.around.value ≡ play_surroundings ms (play_view play) → new.place ≡ 0 → mid.place ≡ gathering_steps play.gathering
    → IsPut ms vars (all_sections_row ms vars scene mid.place (play_view play)) 0 to leaving old mid x
    → IsPut ms vars (gathering_row ms vars scene new.place play.gathering) 0 x leaving mid new at
    → IsPut ms vars (play_row ms (play_view play)) 0 to leaving old new at
play-put ms vars scene play to old mid new x at e f z g p q =
    subst (λ r. IsPut ms vars r 0 to leaving old new at) (gathering-joined ms vars scene (play_view play) play.gathering ∙ own-row ms vars scene play e f)
    (put-joined ms vars (gathering_row ms vars scene 0 play.gathering) (all_sections_row ms vars scene (gathering_steps play.gathering) (play_view play)) 0 to leaving old mid new x at
    (subst (λ k. IsPut ms vars (all_sections_row ms vars scene k (play_view play)) 0 to leaving old mid x) g p)
    (subst (λ k. IsPut ms vars (gathering_row ms vars scene k play.gathering) 0 x leaving mid new at) z q))

node-tasks : (ms : Registry) (vars : Parts) (ns : List Node) → map (node_task ms vars) ns ≡ map (λ s. s.task) (map (node_step ms vars) ns)
node-tasks ms vars [] = refl
node-tasks ms vars (n ∷ ns) = ap (λ ts. node_task ms vars n ∷ ts) (node-tasks ms vars ns)

passed-link : (h : Option ℕ) (o : ℕ) (t : Task) (to : Option ℕ) → cond (is_some h) (link_to o t passes to) [] ≡ passing_links h o t to
passed-link None o t to = refl
passed-link (Some k) o t to = refl

node-links : (ms : Registry) (vars : Parts) (o : ℕ) (ns : List Node) → nodes_links ms vars o ns ≡ steps_links o (map (node_step ms vars) ns)
node-links ms vars o [] = refl
node-links ms vars o (n ∷ ns) =
    let t = node_task ms vars n in
    ap₂ (λ ks ls. (ks ++ (link_to o t goes n.ok.to ++ link_to o t fails n.failed.to)) ++ ls) (passed-link n.handler o t n.ok.to) (node-links ms vars (suc o) ns)

-- nodes that are the steps of a row
module _ (ms : Registry) (vars : Parts) (row : Row) (ns : List Node) (steps : map (node_step ms vars) ns ≡ play_steps row) where
  pub steps-tasks : map (node_task ms vars) ns ≡ tasks_of row
  steps-tasks = node-tasks ms vars ns ∙ ap (map (λ (s : Step). s.task)) steps ∙ step-tasks row 0 1 (end_target row) leaving

  pub steps-links : nodes_links ms vars 1 ns ≡ row_links row
  steps-links = node-links ms vars 1 ns ∙ ap (steps_links 1) steps ∙ (steps_lead_along_links row).2

module _ (ms : Registry) (vars : Parts) (play : PlayData) (old new : Tail) (at : Target) where
  front-one : old.front ≡ suc (steps_of play) → IsPut ms vars (play_row ms play) 0 (to_node old.front) leaving old new at → new.front ≡ 1
  front-one e p = omega (arith, p.room, play-nodes ms play)

  at-end : old.front ≡ suc (steps_of play) → old.front ≡ end_node (play_row ms play)
  at-end e = omega (arith, play-nodes ms play)

  begins : old.front ≡ suc (steps_of play) → IsPut ms vars (play_row ms play) 0 (to_node old.front) leaving old new at → at ≡ play_begin (play_row ms play)
  begins e p = p.entered ∙ ap (λ k. row_target (play_row ms play) k (to_node old.front)) (front-one e p) ∙ ap (λ k. row_target (play_row ms play) 1 (to_node k)) (at-end e)

  pub play-begins : old.front ≡ suc (steps_of play) → IsPut ms vars (play_row ms play) 0 (to_node old.front) leaving old new at → at.to ≡ begins_at (play_row ms play)
  play-begins e p = ap (λ (t : Target). t.to) (begins e p) ∙ (steps_lead_along_links (play_row ms play)).1

  pub play-has-steps : old.front ≡ suc (steps_of play) → old.nodes.items ≡ [] → IsPut ms vars (play_row ms play) 0 (to_node old.front) leaving old new at
      → map (node_step ms vars) (reverse new.nodes.items) ≡ play_steps (play_row ms play)
  play-has-steps e n p =
      let row = play_row ms play in
      p.steps ∙ ap (λ ns. row_steps row 0 new.front (to_node old.front) leaving ++ map (node_step ms vars) (reverse ns)) n
      ∙ append-nil (row_steps row 0 new.front (to_node old.front) leaving) ∙ ap (λ k. row_steps row 0 k (to_node old.front) leaving) (front-one e p) ∙ ap (λ k. row_steps row 0 1 (to_node k) leaving) (at-end e)
