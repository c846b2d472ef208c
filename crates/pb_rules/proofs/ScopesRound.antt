-- The values of `vars` in scope at lines, block after block.
use denote.Ref.{Bor}
use Rattle.std.proofs.Common.{◌≡◌, ◌∙◌, ℕ, ◌+◌, ◌<◌, List, [], ◌∷◌, ◌++◌, Bool, bytes_eq, cond, Option, Some, get_or, length, map, take, refl, sym, ap, add-one, subst, inl, inr, ◌⊎◌}
use Rattle.std.proofs.Math.Seq.{take-suc}
use Rattle.std.proofs.lemmas.List.{map-append}
use Rattle.pb_language.specs.Expansion.{part_named, trees}
use Rattle.pb_language.specs.Expression.{Name, Expression, Expressions, Parts, no_parts, part}
use Rattle.pb_language.specs.Plays.{append_expressions, append_parts}
use Rattle.pb_language.specs.Rules.{task_expressions}
use Rattle.pb_language.specs.Sites as language
use Rattle.pb_flow.specs.Nodes.{scope_after}
use Rattle.pb_flow.proofs.Arounds.{scope-push}
use Rattle.pb_play.specs.declared.play.BlockHead.{BlockHead}
use Rattle.pb_syntax.specs.ExprView.{exprs_view}
use Rattle.pb_task.specs.Tasks.{task_view}
use Rattle.pb_task.specs.declared.task.Task.{Task}
use Rattle.pb_template.specs.Entries.{entries_view}
use Rattle.pb_vars.specs.Same.{HaveSame}
use Rattle.pb_vars.proofs.Merged.{append-nothing}
use Rattle.pb_vars.proofs.Scopes.{same-trees}
use Rattle.pb_rules.specs.Sites.{conditions_round, scope_round, site_in, site_view}
use Rattle.pb_rules.specs.declared.site.Around.{Around}
use Rattle.pb_rules.specs.declared.site.Site.{Site}
use Rattle.pb_rules.specs.declared.site.Thing.{Thing}
use Rattle.pb_rules.specs.declared.site.Thing.TheVariants as thing

same-behind : (ps qs rs : Parts) (n : Name) → part_named n qs ≡ part_named n rs → part_named n (append_parts ps qs) ≡ part_named n (append_parts ps rs)
same-behind no_parts qs rs n h = h
same-behind (part m e ps) qs rs n h = ap (cond (bytes_eq n m) (Some e)) (same-behind ps qs rs n h)

-- values over others that come to the same
pub same-over : (now ps qs rs : Parts) → HaveSame now (append_parts ps qs) → HaveSame qs rs → HaveSame now (append_parts ps rs)
same-over now ps qs rs h g = record { at = λ n. h.at n ∙ same-behind ps qs rs n (g.at n) }

-- values over none
pub over-none : (now ps qs : Parts) → qs ≡ no_parts → HaveSame now (append_parts ps qs) → HaveSame now ps
over-none now ps qs e h = record { at = λ n. h.at n ∙ ap (λ rs. part_named n (append_parts ps rs)) e ∙ ap (part_named n) (append-nothing ps) }

heads-next : (bs : List (Bor BlockHead)) (i : ℕ) (b : Bor BlockHead) → i < length bs → b ≡ get_or bs i b → map (λ x. x.now) (take (i + 1) bs) ≡ map (λ x. x.now) (take i bs) ++ b.now ∷ []
heads-next bs i b lt e =
    let more : take (i + 1) bs ≡ take i bs ++ b ∷ [] = rw add-one (take-suc bs i b lt ∙ ap (λ y. take i bs ++ y ∷ []) (sym e)) in
    ap (map (λ x. x.now)) more ∙ map-append (λ (x : Bor BlockHead). x.now) (take i bs) (b ∷ [])

-- the values of the next block over those of the blocks round it
pub scope-next : (vars now next : Parts) (bs : List (Bor BlockHead)) (i : ℕ) (b : Bor BlockHead) → i < length bs → b ≡ get_or bs i b → HaveSame now (scope_after vars (map (λ x. x.now) (take i bs)))
    → HaveSame next (append_parts (entries_view b.now.vars.items) now) → HaveSame next (scope_after vars (map (λ x. x.now) (take (i + 1) bs)))
scope-next vars now next bs i b lt e h g =
    let all = ap (scope_after vars) (heads-next bs i b lt e) ∙ scope-push vars (map (λ x. x.now) (take i bs)) b.now in
    let so = same-over next (entries_view b.now.vars.items) now (scope_after vars (map (λ x. x.now) (take i bs))) g h in
    record { at = λ n. so.at n ∙ ap (part_named n) (sym all) }

-- what a task reads, asked with values that come to the same as those in scope at its line
module _ (asks : (Name → Option Expression) → Expressions → Bool) where
  abbrev asked : Parts → Expressions → Task → Bool
  asked ps cs t = asks (trees ps) (task_expressions (append_expressions cs (exprs_view t.when.items)) (task_view t))

  asked-same : (ps qs : Parts) (s a : Around) (t : Task) → a ≡ s → HaveSame ps qs → asked ps (conditions_round a) t ≡ asked qs (conditions_round s) t
  asked-same ps qs s a t e h =
      ap (λ x. asked ps (conditions_round x) t) e
      ∙ ap (λ f. asks f (task_expressions (append_expressions (conditions_round s) (exprs_view t.when.items)) (task_view t))) (same-trees ps qs h)

  abbrev Fits : Parts → Around → Thing → Type 0
  Fits ps a x = HaveSame ps (site_in a x).scope

  -- of each line that is asked so of its task
  module _ (told : language.Site → Bool) (tasks : (a : Around) (t : Bor Task) → told (site_in a (thing.Task t)) ≡ asked (site_in a (thing.Task t)).scope (conditions_round a) t.now)
      (handlers : (a : Around) (i : ℕ) (t : Bor Task) → told (site_in a (thing.Handler i t)) ≡ asked (site_in a (thing.Handler i t)).scope (conditions_round a) t.now) where
    pub task-told : (ps : Parts) (s : Site) (a : Around) (t : Bor Task) → s.thing ≡ thing.Task t → a ≡ s.around.value → HaveSame ps (site_view s).scope → asked ps (conditions_round a) t.now ≡ told (site_view s)
    task-told ps s a t e w h =
        let there = s.around.value in
        asked-same ps (site_in there (thing.Task t)).scope there a t.now w (subst (Fits ps there) e h) ∙ sym (tasks there t) ∙ ap (λ x. told (site_in there x)) (sym e)

    pub handler-told : (ps : Parts) (s : Site) (a : Around) (i : ℕ) (t : Bor Task) → s.thing ≡ thing.Handler i t → a ≡ s.around.value → HaveSame ps (site_view s).scope → asked ps (conditions_round a) t.now ≡ told (site_view s)
    handler-told ps s a i t e w h =
        let there = s.around.value in
        asked-same ps (site_in there (thing.Handler i t)).scope there a t.now w (subst (Fits ps there) e h) ∙ sym (handlers there i t) ∙ ap (λ x. told (site_in there x)) (sym e)

-- in scope at a line of a play are its own values over those round it
is-over : (a : Around) (x y : Thing) → x ≡ y → (site_in a y).scope ≡ append_parts (site_in a y).vars (scope_round a) → (site_in a x).scope ≡ append_parts (site_in a x).vars (scope_round a)
is-over a x y e h = subst (λ z. (site_in a z).scope ≡ append_parts (site_in a z).vars (scope_round a)) (sym e) h

pub outer-line : (a : Around) (x : Thing)
    → ((h : Bor BlockHead) × (x ≡ thing.Block h)) ⊎ (((l : ℕ) × (x ≡ thing.Flush l)) ⊎ (((l : ℕ) × (x ≡ thing.Gathering l)) ⊎ (((t : Bor Task) × (x ≡ thing.Task t)) ⊎ ((i : ℕ) × (t : Bor Task) × (x ≡ thing.Handler i t)))))
    → (site_in a x).scope ≡ append_parts (site_in a x).vars (scope_round a)
outer-line a x (inl e) = is-over a x (thing.Block e.0) e.1 refl
outer-line a x (inr (inl e)) = is-over a x (thing.Flush e.0) e.1 refl
outer-line a x (inr (inr (inl e))) = is-over a x (thing.Gathering e.0) e.1 refl
outer-line a x (inr (inr (inr (inl e)))) = is-over a x (thing.Task e.0) e.1 refl
outer-line a x (inr (inr (inr (inr e)))) = is-over a x (thing.Handler e.0 e.1) e.2 refl

pub outer-scope : (now outer vars : Parts) (s : Site) (a : Around) → a ≡ s.around.value → vars ≡ (site_view s).vars → HaveSame outer (scope_round a) → HaveSame now (append_parts vars outer)
    → (site_view s).scope ≡ append_parts (site_view s).vars (scope_round s.around.value) → HaveSame now (site_view s).scope
outer-scope now outer vars s a w e h g whole =
    let so = same-over now vars outer (scope_round a) g h in
    record { at = λ n. so.at n ∙ ap (λ x. part_named n (append_parts vars (scope_round x))) w ∙ ap (λ ps. part_named n (append_parts ps (scope_round s.around.value))) e ∙ ap (part_named n) (sym whole) }
