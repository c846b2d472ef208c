-- A block that is put in front, part by part.
use Rattle.std.proofs.Common.{◌≡◌, ◌∙◌, ℕ, suc, ◌+◌, List, ◌||◌, Result, Ok, Err, IfOk, OnOk, length, refl, ap, subst, arith}
use Rattle.pb_language.specs.Book.{Registry, Steps}
use Rattle.pb_language.specs.Expression.{Parts}
use Rattle.pb_language.specs.Plays.{Surroundings, inside, is_given, places_in, row_of}
use Rattle.pb_language.specs.Task.{Handlers, end}
use Rattle.pb_play.specs.Plays.{head_view, steps_view}
use Rattle.pb_play.specs.declared.play.Block.{Block}
use Rattle.pb_play.specs.declared.play.Step.{Step}
use Rattle.pb_flow.specs.Build.{IsPut, block_alone, handlers_from, steps_row, tail_steps}
use Rattle.pb_flow.specs.Nodes.{around_view}
use Rattle.pb_flow.specs.declared.scene.Scene.{Scene}
use Rattle.pb_flow.specs.declared.tail.Tail.{Tail}
use Rattle.pb_flow.specs.declared.graph.Around.{Around}
use Rattle.pb_machine.specs.Steps.{Target, holding, releasing, moving, saved_target}
use Rattle.pb_flow.proofs.Puts.{put-block}

-- what holds of a result and what holds once there is one
pub both-ok : {A E : Type 0} (r : Result A E) (P Q : A → Type 0) (F : Type 0) → IfOk r P → OnOk r F → ((a : A) → P a → F → Q a) → IfOk r Q
both-ok (Ok a) P Q F p f g = g a p f
both-ok (Err e) P Q F p f g = tt

pub on-ok : {A E : Type 0} (r : Result A E) (F G : Type 0) → OnOk r F → (F → G) → OnOk r G
on-ok (Ok a) F G f g = g f
on-ok (Err e) F G f g = tt

-- the row is that of the same steps in the same surroundings at the same place
pub same-put : (ms : Registry) (vars : Parts) (hs : ℕ → Handlers) (n : ℕ) (s s' : Surroundings) (p p' : ℕ) (ss ss' : Steps) (m : ℕ) (ok failed : Target) (old new : Tail) (at : Target) → s ≡ s' → p ≡ p' → ss ≡ ss'
    → IsPut ms vars (row_of hs n s p ss end) m ok failed old new at → IsPut ms vars (row_of hs n s' p' ss' end) m ok failed old new at
same-put ms vars hs n s s' p p' ss ss' m ok failed old new at e f g h =
    subst (λ r. IsPut ms vars r m ok failed old new at) (ap (λ x. row_of hs n x p ss end) e ∙ ap (λ x. row_of hs n s' x ss end) f ∙ ap (λ x. row_of hs n s' p' x end) g) h

-- the same stands round the steps, and as many failures are held there
pub part-put : (ms : Registry) (vars : Parts) (scene : Scene) (a b : Around) (p : ℕ) (ss : Steps) (m k : ℕ) (ok failed : Target) (old new : Tail) (at : Target) → a ≡ b → m ≡ k
    → IsPut ms vars (steps_row ms vars scene a p ss) m ok failed old new at → IsPut ms vars (steps_row ms vars scene b p ss) k ok failed old new at
part-put ms vars scene a b p ss m k ok failed old new at e f h =
    subst (λ (x : Around). IsPut ms vars (steps_row ms vars scene x p ss) k ok failed old new at) e (subst (λ i. IsPut ms vars (steps_row ms vars scene a p ss) i ok failed old new at) f h)

module _ (ms : Registry) (vars : Parts) (scene : Scene) (around : Around) (b : Block Step) where
  pub block-put : (always rescue body : Around) (xs ys zs zs' : List Step) (m : ℕ) (ok failed : Target) (old one again two three new : Tail) (out last on fails entering saved at : Target)
      → around_view ms vars always ≡ inside (around_view ms vars around) (head_view b.head)
      → around_view ms vars rescue ≡ record (inside (around_view ms vars around) (head_view b.head)) { depth = suc around.depth }
      → around_view ms vars body ≡ record (inside (around_view ms vars around) (head_view b.head)) { rescued = around.rescued || is_given (steps_view b.rescue.items) }
      → xs ≡ b.body.items → ys ≡ b.rescue.items → zs ≡ b.always.items → zs' ≡ b.always.items
      → again.front ≡ one.front → tail_steps ms vars again ≡ tail_steps ms vars one → again.place ≡ old.place
      → one.place + places_in (length scene.handlers.now) (steps_view zs) ≡ old.place → two.place + places_in (length scene.handlers.now) (steps_view zs') ≡ again.place
      → three.place + places_in (length scene.handlers.now) (steps_view ys) ≡ two.place → new.place + places_in (length scene.handlers.now) (steps_view xs) ≡ three.place
      → out ≡ moving (releasing m) failed → fails ≡ moving (holding m) last → saved ≡ saved_target around.depth (is_given (steps_view b.rescue.items)) entering fails
      → IsPut ms vars (steps_row ms vars scene always one.place (steps_view zs)) (suc m) out failed old one last
      → IsPut ms vars (steps_row ms vars scene always two.place (steps_view zs')) m ok failed again two on
      → IsPut ms vars (steps_row ms vars scene rescue three.place (steps_view ys)) m on fails two three entering
      → IsPut ms vars (steps_row ms vars scene body new.place (steps_view xs)) m on saved three new at
      → IsPut ms vars (steps_row ms vars scene around new.place (block_alone b)) m ok failed old new at
  block-put always rescue body xs ys zs zs' m ok failed old one again two three new out last on fails entering saved at ea er eb ex ey ez ez' ff ft fp pz pz' py px eo eh es h1 h2 h3 h4 =
      let n = length scene.handlers.now in
      let hs = handlers_from ms vars scene in
      let x = steps_view b.body.items in
      let y = steps_view b.rescue.items in
      let z = steps_view b.always.items in
      let cx = ap (λ ss. places_in n (steps_view ss)) ex in
      let cy = ap (λ ss. places_in n (steps_view ss)) ey in
      let cz = ap (λ ss. places_in n (steps_view ss)) ez in
      let cz' = ap (λ ss. places_in n (steps_view ss)) ez' in
      let at_rescue : three.place ≡ places_in n x + new.place = omega arith in
      let at_always : two.place ≡ places_in n y + (places_in n x + new.place) = omega arith in
      let at_first : one.place ≡ places_in n y + (places_in n x + new.place) = omega arith in
      let in_body = record (inside (around_view ms vars around) (head_view b.head)) { rescued = around.rescued || is_given y } in
      let in_rescue = record (inside (around_view ms vars around) (head_view b.head)) { depth = suc around.depth } in
      let in_always = inside (around_view ms vars around) (head_view b.head) in
      put-block ms vars around.depth (row_of hs n in_body new.place x end) (is_given y) (row_of hs n in_rescue (places_in n x + new.place) y end) (row_of hs n in_always (places_in n y + (places_in n x + new.place)) z end) m ok failed old one again two three new last on fails entering at ff ft eh
      (same-put ms vars hs n (around_view ms vars always) in_always one.place (places_in n y + (places_in n x + new.place)) (steps_view zs) z (suc m) (moving (releasing m) failed) failed old one last ea at_first (ap steps_view ez)
      (subst (λ t. IsPut ms vars (steps_row ms vars scene always one.place (steps_view zs)) (suc m) t failed old one last) eo h1))
      (same-put ms vars hs n (around_view ms vars always) in_always two.place (places_in n y + (places_in n x + new.place)) (steps_view zs') z m ok failed again two on ea at_always (ap steps_view ez') h2)
      (same-put ms vars hs n (around_view ms vars rescue) in_rescue three.place (places_in n x + new.place) (steps_view ys) y m on fails two three entering er at_rescue (ap steps_view ey) h3)
      (same-put ms vars hs n (around_view ms vars body) in_body new.place new.place (steps_view xs) x m on (saved_target around.depth (is_given y) entering fails) three new at eb refl (ap steps_view ex)
      (subst (λ f. IsPut ms vars (steps_row ms vars scene body new.place (steps_view xs)) m on f three new at) es h4))
