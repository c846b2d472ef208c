-- Going on after a task.
use Rattle.std.proofs.Common.{◌≡◌, ℕ, List, [], ◌∷◌, ◌++◌, get_or, Bool, true, false, not, ◌&&◌, ◌||◌, nat_eq, cond, refl, sym, ap, subst, ◌∙◌}
use Rattle.pb_language.specs.Task.{Task}
use Rattle.pb_language.specs.Machine.{is_marked}
use Rattle.pb_language.specs.Give.{Ended, any_failed, message_of}
use Rattle.pb_machine.specs.Steps as flat
use Rattle.pb_machine.specs.Hosts.{FlatHost, arrived}
use Rattle.pb_machine.specs.Run.{after_task, target_on}
use Rattle.pb_flow.specs.Nodes.{target_view}
use Rattle.pb_steps.specs.Outlines.{Outline, outline, outline_view}
use Rattle.pb_steps.specs.declared.step.Step.{Step}
use Rattle.pb_position.specs.Texts.{text_of, texts_of}
use Rattle.pb_position.specs.Positions.{IsAs, IsAt}
use Rattle.pb_position.specs.Calls.{Arrives, GoesOn}
use Rattle.pb_position.specs.declared.position.Position.{Position}
use Rattle.pb_position.specs.declared.position.TaskEnd.{TaskEnd}

either_is_marked : (n : ℕ) (ms ks : List ℕ) → is_marked n (ms ++ ks) ≡ is_marked n ms || is_marked n ks
either_is_marked n [] ks = refl
either_is_marked n (m ∷ ms) ks = ap (λ b. nat_eq n m || b) (either_is_marked n ms ks) ∙ join (nat_eq n m) (is_marked n ms) (is_marked n ks) where
  join : (a b c : Bool) → a || (b || c) ≡ (a || b) || c
  join true b c = refl
  join false b c = refl

-- what is marked, and where it failed the text
is_as_after : (h : FlatHost) (t : Task) (es : List Ended) (end : TaskEnd) (p q : Position) → IsAs p h → ((n : ℕ) → get_or q.marks.items n false ≡ is_marked n end.notified.items || get_or p.marks.items n false)
    → text_of q.failure ≡ cond (any_failed es && not t.ignores) (message_of t.loop es) h.failure → q.rescues ≡ p.rescues → q.holds ≡ p.holds → IsAs q (after_task h t es end.notified.items)
is_as_after h t es end p q i marks failure r k = record {
  marks = λ n. marks n ∙ ap (λ b. is_marked n end.notified.items || b) (i.marks n) ∙ sym (either_is_marked n end.notified.items h.marks);
  failure = failure;
  rescues = ap (λ v. texts_of v.items) r ∙ i.rescues;
  holds = ap (λ v. texts_of v.items) k ∙ i.holds;
}

-- where the target leads that is kept of the one after a failure, or of the one after none
leads_where_it_failed : (f : flat.Step) (s : Step) (es : List Ended) → outline f ≡ outline_view s → any_failed es && not f.task.ignores ≡ true → target_on f es ≡ target_view s.failed
leads_where_it_failed f s es e is = ap (λ b. cond b f.failed f.ok) is ∙ ap (λ (x : Outline). x.failed) e

leads_where_it_is_done : (f : flat.Step) (s : Step) (es : List Ended) → outline f ≡ outline_view s → any_failed es && not f.task.ignores ≡ false → target_on f es ≡ target_view s.ok
leads_where_it_is_done f s es e is = ap (λ b. cond b f.failed f.ok) is ∙ ap (λ (x : Outline). x.ok) e

-- `o` is the position before, `p` its copy, `m` that with the marks, and `r` where it arrives
pub goes_on_where_it_failed : (ss : List Step) (s : Step) (end : TaskEnd) (o p m r : Position) → ((h : FlatHost) → IsAs o h → IsAs p h) → end.has_failed ≡ true
    → ((n : ℕ) → get_or m.marks.items n false ≡ is_marked n end.notified.items || get_or p.marks.items n false) → record m { marks = p.marks } ≡ p
    → Arrives ss s.failed (record m { failure = end.text }) r → GoesOn ss s end o r
goes_on_where_it_failed ss s end o p m r same failed marks rest arrives = record {
  host = λ fs f kept e h es j ended.
      let t = f.task in
      let i = same h j in
      let q = record m { failure = end.text } in
      let is : any_failed es && not t.ignores ≡ true = sym ended.failed ∙ failed in
      subst (λ (x : flat.Target). IsAt r (arrived fs x (after_task h t es end.notified.items))) (sym (leads_where_it_failed f s es e is))
      (arrives.host fs kept (after_task h t es end.notified.items)
      (is_as_after h t es end p q i marks (ended.text failed ∙ ap (λ b. cond b (message_of t.loop es) h.failure) (sym is)) (ap (λ (x : Position). x.rescues) rest) (ap (λ (x : Position). x.holds) rest)));
}

pub goes_on_where_it_is_done : (ss : List Step) (s : Step) (end : TaskEnd) (o p m r : Position) → ((h : FlatHost) → IsAs o h → IsAs p h) → end.has_failed ≡ false
    → ((n : ℕ) → get_or m.marks.items n false ≡ is_marked n end.notified.items || get_or p.marks.items n false) → record m { marks = p.marks } ≡ p
    → Arrives ss s.ok m r → GoesOn ss s end o r
goes_on_where_it_is_done ss s end o p m r same failed marks rest arrives = record {
  host = λ fs f kept e h es j ended.
      let t = f.task in
      let i = same h j in
      let is : any_failed es && not t.ignores ≡ false = sym ended.failed ∙ failed in
      subst (λ (x : flat.Target). IsAt r (arrived fs x (after_task h t es end.notified.items))) (sym (leads_where_it_is_done f s es e is))
      (arrives.host fs kept (after_task h t es end.notified.items)
      (is_as_after h t es end p m i marks (ap (λ (x : Position). text_of x.failure) rest ∙ i.failure ∙ ap (λ b. cond b (message_of t.loop es) h.failure) (sym is)) (ap (λ (x : Position). x.rescues) rest) (ap (λ (x : Position). x.holds) rest)));
}
