-- Lines that are put one behind the other are those of a book.
use Rattle.std.proofs.Common.{◌≡◌, ◌∙◌, ℕ, ◌+◌, ◌<◌, ◌≤◌, List, [], ◌∷◌, ◌++◌, drop, get_or, length, map, append_assoc, append-nil, add-one, Option, Some, Bor, refl, sym, ap, subst}
use Rattle.std.proofs.lemmas.List.{drop_all, map-append}
use Rattle.pb_language.specs.Book.{PlayData, Steps, block_step, no_steps}
use Rattle.pb_language.specs.Expression.{Expressions, Parts, no_expressions}
use Rattle.pb_language.specs.Plays.{append_expressions, append_parts}
use Rattle.pb_language.specs.Sites as language
use Rattle.pb_language.specs.Sites.{a_block, a_handler, gathering_sites, handler_sites, play_sites, site, sites_in, sites_of}
use Rattle.pb_flow.specs.Nodes.{conditions_after, scope_after}
use Rattle.pb_flow.proofs.Counts.{left, none-left, of-layer, view-block}
use Rattle.pb_play.proofs.Sounds.{block-tasks as seen-tasks}
use Rattle.pb_play.specs.Plays.{handler_view, head_view, play_view, step_layer, step_view, steps_view}
use Rattle.pb_play.specs.Sound.{all_tasks, handler_tasks, play_tasks, step_tasks, tasks_in}
use Rattle.pb_play.specs.declared.play.Block.{Block}
use Rattle.pb_play.specs.declared.play.Handler.{Handler}
use Rattle.pb_play.specs.declared.play.Play.{Play}
use Rattle.pb_play.specs.declared.play.Step as Step-of
use Rattle.pb_play.specs.declared.play.Step.{Step}
use Rattle.pb_play.specs.declared.play.Step.TheOpen.{Step-F}
use Rattle.pb_play.specs.declared.play.BlockHead.{BlockHead}
use Rattle.pb_syntax.proofs.Left.{drop-at}
use Rattle.pb_syntax.specs.ExprView.{exprs_view}
use Rattle.pb_task.specs.Tasks.{task_view}
use Rattle.pb_task.specs.declared.task.Task.{Task}
use Rattle.pb_template.specs.Entries.{entries_view}
use Rattle.pb_rules.specs.Sites.{ArePut, conditions_round, scope_round, site_in, site_view, sites_round, task_list, tasks_at}
use Rattle.pb_rules.specs.declared.site.Around.{Around}
use Rattle.pb_rules.specs.declared.site.Site.{Site}
use Rattle.pb_rules.specs.declared.site.Thing.{Thing}
use Rattle.pb_rules.specs.declared.site.Thing.TheVariants as thing

-- the play is that round the line
pub line-play : (a : Around) (x : Thing) → (site_in a x).play ≡ play_view a.play.now
line-play a thing.Play = refl
line-play a (thing.Block h) = refl
line-play a (thing.Flush l) = refl
line-play a (thing.Gathering l) = refl
line-play a (thing.Task t) = refl
line-play a (thing.Handler i t) = refl

-- some are put behind others
pub put-none : (xs : List Site) → ArePut xs xs [] []
put-none xs = record { lines = sym (append-nil (map site_view xs)); tasks = sym (append-nil (tasks_at xs)) }

pub put-then : (xs ys zs : List Site) (ls ms : List language.Site) (ts us : List Task) → ArePut xs ys ls ts → ArePut ys zs ms us → ArePut xs zs (ls ++ ms) (ts ++ us)
put-then xs ys zs ls ms ts us p q = record {
  lines = q.lines ∙ ap (λ ks. ks ++ ms) p.lines ∙ append_assoc (map site_view xs) ls ms;
  tasks = q.tasks ∙ ap (λ ks. ks ++ us) p.tasks ∙ append_assoc (tasks_at xs) ts us;
}

pub put-as : (xs ys : List Site) (ls ms : List language.Site) (ts us : List Task) → ls ≡ ms → ts ≡ us → ArePut xs ys ls ts → ArePut xs ys ms us
put-as xs ys ls ms ts us e f p = record { lines = p.lines ∙ ap (λ ks. map site_view xs ++ ks) e; tasks = p.tasks ∙ ap (λ ks. tasks_at xs ++ ks) f }

tasks-last : (xs : List Site) (s : Site) → tasks_at (xs ++ s ∷ []) ≡ tasks_at xs ++ task_list s.thing
tasks-last [] s = append-nil (task_list s.thing)
tasks-last (x ∷ xs) s = ap (λ ts. task_list x.thing ++ ts) (tasks-last xs s) ∙ sym (append_assoc (task_list x.thing) (tasks_at xs) (task_list s.thing))

pub put_one : (xs ys : List Site) (s : Site) → ys ≡ xs ++ s ∷ [] → ArePut xs ys (site_view s ∷ []) (task_list s.thing)
put_one xs ys s e = record { lines = ap (map site_view) e ∙ map-append site_view xs (s ∷ []); tasks = ap tasks_at e ∙ tasks-last xs s }

-- steps in front have their lines in front
pub front-sites : (p : PlayData) (cs : Expressions) (scope : Parts) (s : Step) (ss : Steps) → sites_in p cs scope (step_view s ss) ≡ sites_in p cs scope (step_view s no_steps) ++ sites_in p cs scope ss
front-sites p cs scope s ss = of-layer (λ f. sites_in p cs scope (f ss) ≡ sites_in p cs scope (f no_steps) ++ sites_in p cs scope ss) at s where
  at : (l : Step-F _) → sites_in p cs scope (step_layer l ss) ≡ sites_in p cs scope (step_layer l no_steps) ++ sites_in p cs scope ss
  at (Step-F.Task t) = refl
  at (Step-F.Block b) = simp append_assoc
  at (Step-F.Flush l) = refl

-- up to that step they were put
pub record StepsPut (a : Around) (old now : List Site) (ss : List Step) (i : ℕ) : Type 0 where
  pub lines : map site_view now ++ sites_round a (steps_view (drop i ss)) ≡ map site_view old ++ sites_round a (steps_view ss)
  pub tasks : tasks_at now ++ tasks_in (drop i ss) ≡ tasks_at old ++ tasks_in ss

pub step-put : (a : Around) (old now next : List Site) (ss : List Step) (i : ℕ) (s : Step) → StepsPut a old now ss i → i < length ss → s ≡ get_or ss i s → ArePut now next (sites_round a (step_view s no_steps)) (step_tasks s)
    → StepsPut a old next ss (i + 1)
step-put a old now next ss i s h lt e p = record {
  lines = ap (λ ks. ks ++ sites_round a (steps_view (drop (i + 1) ss))) p.lines ∙ append_assoc (map site_view now) (sites_round a (step_view s no_steps)) (sites_round a (steps_view (drop (i + 1) ss)))
      ∙ ap (λ ks. map site_view now ++ ks) (sym (ap (sites_round a) (left ss i s lt e) ∙ front-sites (play_view a.play.now) (conditions_round a) (scope_round a) s (steps_view (drop (i + 1) ss)))) ∙ h.lines;
  tasks = ap (λ ks. ks ++ tasks_in (drop (i + 1) ss)) p.tasks ∙ append_assoc (tasks_at now) (step_tasks s) (tasks_in (drop (i + 1) ss))
      ∙ ap (λ ks. tasks_at now ++ ks) (sym (ap tasks_in (drop-at ss i s lt e))) ∙ h.tasks;
}

pub steps-put : (a : Around) (old now : List Site) (ss : List Step) (i : ℕ) → StepsPut a old now ss i → length ss ≤ i → ArePut old now (sites_round a (steps_view ss)) (tasks_in ss)
steps-put a old now ss i h past = record {
  lines = sym (append-nil (map site_view now)) ∙ ap (λ ks. map site_view now ++ ks) (sym (ap (sites_round a) (none-left ss i past))) ∙ h.lines;
  tasks = sym (append-nil (tasks_at now)) ∙ ap (λ ks. tasks_at now ++ ks) (sym (ap tasks_in (drop_all i ss past))) ∙ h.tasks;
}

-- a block with nothing behind it
abbrev block_alone : Block Step → Steps
block_alone b = block_step (head_view b.head) (steps_view b.body.items)
    (steps_view b.rescue.items) (steps_view b.always.items) no_steps

abbrev block_tasks : Block Step → List Task
block_tasks b = tasks_in b.body.items ++ (tasks_in b.rescue.items ++ tasks_in b.always.items)

-- what stands round the steps of a block
pub record IsInside (a b : Around) (h : BlockHead) : Type 0 where
  pub play : b.play ≡ a.play
  pub conditions : conditions_round b ≡ append_expressions (conditions_round a) (exprs_view h.when.items)
  pub scope : scope_round b ≡ append_parts (entries_view h.vars.items) (scope_round a)

inside-sites : (a b : Around) (h : BlockHead) (ss : Steps) → IsInside a b h
    → sites_round b ss ≡ sites_in (play_view a.play.now) (append_expressions (conditions_round a) (exprs_view h.when.items)) (append_parts (entries_view h.vars.items) (scope_round a)) ss
inside-sites a b h ss i =
    ap (λ (p : Bor Play). sites_in (play_view p.now) (conditions_round b) (scope_round b) ss) i.play ∙ ap (λ cs. sites_in (play_view a.play.now) cs (scope_round b) ss) i.conditions
    ∙ ap (λ ps. sites_in (play_view a.play.now) (append_expressions (conditions_round a) (exprs_view h.when.items)) ps ss) i.scope

parts-joined : {A : Type 0} (s : A) (xs ys zs : List A) → ((s ∷ [] ++ xs) ++ ys) ++ zs ≡ s ∷ (xs ++ ys ++ zs ++ [])
parts-joined s xs ys zs = simp (append_assoc, append-nil)

tasks-joined : {A : Type 0} (xs ys zs : List A) → (([] ++ xs) ++ ys) ++ zs ≡ xs ++ (ys ++ zs)
tasks-joined xs ys zs = append_assoc xs ys zs

-- the lines of a block with that head and those parts
abbrev block-sites : Around → Block Step → BlockHead → List language.Site
block-sites a k g = site (play_view a.play.now) (conditions_round a) (scope_round a) g.line a_block (entries_view g.vars.items)
    ∷ (sites_in (play_view a.play.now) (append_expressions (conditions_round a) (exprs_view g.when.items)) (append_parts (entries_view g.vars.items) (scope_round a)) (steps_view k.body.items)
    ++ sites_in (play_view a.play.now) (append_expressions (conditions_round a) (exprs_view g.when.items)) (append_parts (entries_view g.vars.items) (scope_round a)) (steps_view k.rescue.items)
    ++ sites_in (play_view a.play.now) (append_expressions (conditions_round a) (exprs_view g.when.items)) (append_parts (entries_view g.vars.items) (scope_round a)) (steps_view k.always.items)
    ++ [])

-- a block, then its parts
pub block-put : (a b : Around) (k : Block Step) (h : Bor BlockHead) (x y z : List Step) (s0 s1 s2 s3 s4 : List Site) → h.now ≡ k.head → IsInside a b h.now → x ≡ k.body.items → y ≡ k.rescue.items → z ≡ k.always.items
    → ArePut s0 s1 (site_in a (thing.Block h) ∷ []) [] → ArePut s1 s2 (sites_round b (steps_view x)) (tasks_in x) → ArePut s2 s3 (sites_round b (steps_view y)) (tasks_in y)
    → ArePut s3 s4 (sites_round b (steps_view z)) (tasks_in z) → ArePut s0 s4 (sites_round a (block_alone k)) (block_tasks k)
block-put a b k h x y z s0 s1 s2 s3 s4 eh i ex ey ez p q r t =
    let inner = λ (ss : List Step). sites_in (play_view a.play.now) (append_expressions (conditions_round a) (exprs_view h.now.when.items)) (append_parts (entries_view h.now.vars.items) (scope_round a)) (steps_view ss) in
    let line = site_in a (thing.Block h) in
    put-as s0 s4 (((line ∷ [] ++ sites_round b (steps_view x)) ++ sites_round b (steps_view y)) ++ sites_round b (steps_view z)) (sites_round a (block_alone k))
    ((([] ++ tasks_in x) ++ tasks_in y) ++ tasks_in z) (block_tasks k)
    (ap (λ ks. ((line ∷ [] ++ ks) ++ sites_round b (steps_view y)) ++ sites_round b (steps_view z)) (inside-sites a b h.now (steps_view x) i)
    ∙ ap (λ ks. ((line ∷ [] ++ inner x) ++ ks) ++ sites_round b (steps_view z)) (inside-sites a b h.now (steps_view y) i)
    ∙ ap (λ ks. ((line ∷ [] ++ inner x) ++ inner y) ++ ks) (inside-sites a b h.now (steps_view z) i)
    ∙ parts-joined line (inner x) (inner y) (inner z)
    ∙ ap (λ ks. line ∷ (inner ks ++ inner y ++ inner z ++ [])) ex ∙ ap (λ ks. line ∷ (inner k.body.items ++ inner ks ++ inner z ++ [])) ey
    ∙ ap (λ ks. line ∷ (inner k.body.items ++ inner k.rescue.items ++ inner ks ++ [])) ez ∙ headed eh)
    (tasks-joined (tasks_in x) (tasks_in y) (tasks_in z) ∙ ap (λ ks. tasks_in ks ++ (tasks_in y ++ tasks_in z)) ex ∙ ap (λ ks. tasks_in k.body.items ++ (tasks_in ks ++ tasks_in z)) ey
    ∙ ap (λ ks. tasks_in k.body.items ++ (tasks_in k.rescue.items ++ tasks_in ks)) ez)
    (put-then s0 s3 s4 _ (sites_round b (steps_view z)) _ (tasks_in z) (put-then s0 s2 s3 _ (sites_round b (steps_view y)) _ (tasks_in y) (put-then s0 s1 s2 _ (sites_round b (steps_view x)) _ (tasks_in x) p q) r) t) where
      headed : h.now ≡ k.head → block-sites a k h.now ≡ block-sites a k k.head
      headed e = ap (block-sites a k) e

-- a block as a step
pub step-block : (a : Around) (k : Block Step) (xs ys : List Site) → ArePut xs ys (sites_round a (block_alone k)) (block_tasks k) → ArePut xs ys (sites_round a (step_view (Step-of.Block k) no_steps)) (step_tasks (Step-of.Block k))
step-block a k xs ys p = put-as xs ys (sites_round a (block_alone k)) (sites_round a (step_view (Step-of.Block k) no_steps)) (block_tasks k) (step_tasks (Step-of.Block k)) (ap (sites_round a) (sym (view-block k no_steps))) (sym (seen-tasks k)) p

-- round a play's sections and handlers stands no block
pub at-top : (a : Around) → a.blocks.items ≡ [] → (conditions_round a ≡ no_expressions) × (scope_round a ≡ entries_view a.play.now.vars.items)
at-top a e = (
  ap (λ (bs : List (Bor BlockHead)). conditions_after no_expressions (map (λ b. b.now) bs)) e,
  ap (λ (bs : List (Bor BlockHead)). scope_after (entries_view a.play.now.vars.items) (map (λ b. b.now) bs)) e,
)

pub gathering-put : (a : Around) (l : ℕ) → a.blocks.items ≡ [] → site_in a (thing.Gathering l) ∷ [] ≡ gathering_sites (play_view a.play.now) (Some l)
gathering-put a l e = rw ((at-top a e).0, (at-top a e).1) refl

abbrev handler-site : Around → ℕ → Task → language.Site
handler-site a i t = site (play_view a.play.now) (append_expressions (conditions_round a) (exprs_view t.when.items)) (scope_round a) t.line (a_handler i (task_view t)) (entries_view t.vars.items)

abbrev handled : Around → ℕ → Task → language.Site
handled a i t = site (play_view a.play.now) (exprs_view t.when.items) (entries_view a.play.now.vars.items) t.line (a_handler i (task_view t)) (entries_view t.vars.items)

pub handler-line : (a : Around) (i : ℕ) (t : Task) → a.blocks.items ≡ [] → handler-site a i t ≡ handled a i t
handler-line a i t e = rw ((at-top a e).0, (at-top a e).1) refl

-- up to that handler they were put
pub record HandlersPut (p : PlayData) (old now : List Site) (hs : List Handler) (i : ℕ) : Type 0 where
  pub lines : map site_view now ++ handler_sites p i (map handler_view (drop i hs)) ≡ map site_view old ++ handler_sites p 0 (map handler_view hs)
  pub tasks : tasks_at now ++ handler_tasks (drop i hs) ≡ tasks_at old ++ handler_tasks hs

pub handler-put : (a : Around) (old now next : List Site) (hs : List Handler) (i : ℕ) (h : Handler) → a.blocks.items ≡ [] → HandlersPut (play_view a.play.now) old now hs i → i < length hs → h ≡ get_or hs i h
    → ArePut now next (handler-site a i h.task ∷ []) (h.task ∷ []) → HandlersPut (play_view a.play.now) old next hs (i + 1)
handler-put a old now next hs i h none k lt e p =
    let play = play_view a.play.now in
    let rest = drop (i + 1) hs in
    let all = drop-at hs i h lt e in
    record {
      lines = ap (λ ks. ks ++ handler_sites play (i + 1) (map handler_view rest)) p.lines ∙ append_assoc (map site_view now) (handler-site a i h.task ∷ []) (handler_sites play (i + 1) (map handler_view rest))
          ∙ ap (λ l. map site_view now ++ l ∷ handler_sites play (i + 1) (map handler_view rest)) (handler-line a i h.task none)
          ∙ ap (λ n. map site_view now ++ handled a i h.task ∷ handler_sites play n (map handler_view rest)) (add-one i)
          ∙ ap (λ ks. map site_view now ++ handler_sites play i (map handler_view ks)) (sym all) ∙ k.lines;
      tasks = ap (λ ks. ks ++ handler_tasks rest) p.tasks ∙ append_assoc (tasks_at now) (h.task ∷ []) (handler_tasks rest) ∙ ap (λ ks. tasks_at now ++ handler_tasks ks) (sym all) ∙ k.tasks;
    }

pub handlers-put : (p : PlayData) (old now : List Site) (hs : List Handler) (i : ℕ) → HandlersPut p old now hs i → length hs ≤ i → ArePut old now (handler_sites p 0 (map handler_view hs)) (handler_tasks hs)
handlers-put p old now hs i k past = record {
  lines = sym (append-nil (map site_view now)) ∙ ap (λ ks. map site_view now ++ handler_sites p i (map handler_view ks)) (sym (drop_all i hs past)) ∙ k.lines;
  tasks = sym (append-nil (tasks_at now)) ∙ ap (λ ks. tasks_at now ++ handler_tasks ks) (sym (drop_all i hs past)) ∙ k.tasks;
}

top-sites : (a : Around) (ss : Steps) → a.blocks.items ≡ [] → sites_round a ss ≡ sites_in (play_view a.play.now) no_expressions (entries_view a.play.now.vars.items) ss
top-sites a ss e = rw ((at-top a e).0, (at-top a e).1) refl

sections-joined : {A : Type 0} (s : A) (gs xs ys zs hs : List A) → ((((s ∷ [] ++ gs) ++ xs) ++ ys) ++ zs) ++ hs ≡ s ∷ (gs ++ xs ++ ys ++ zs ++ hs)
sections-joined s gs xs ys zs hs = simp append_assoc

section-tasks : {A : Type 0} (xs ys zs hs : List A) → (((([] ++ []) ++ xs) ++ ys) ++ zs) ++ hs ≡ xs ++ (ys ++ (zs ++ hs))
section-tasks xs ys zs hs = simp append_assoc

-- a play, its gathering, its sections and its handlers
pub play-put : (a : Around) (p : Bor Play) (g : Option ℕ) (x y z : List Step) (hs : List Handler) (s0 s1 s2 s3 s4 s5 s6 : List Site) → a.play ≡ p → a.blocks.items ≡ [] → g ≡ p.now.gathering
    → x ≡ p.now.pre_tasks.items → y ≡ p.now.tasks.items → z ≡ p.now.post_tasks.items → hs ≡ p.now.handlers.items
    → ArePut s0 s1 (site_in a thing.Play ∷ []) [] → ArePut s1 s2 (gathering_sites (play_view a.play.now) g) []
    → ArePut s2 s3 (sites_round a (steps_view x)) (tasks_in x) → ArePut s3 s4 (sites_round a (steps_view y)) (tasks_in y) → ArePut s4 s5 (sites_round a (steps_view z)) (tasks_in z)
    → ArePut s5 s6 (handler_sites (play_view a.play.now) 0 (map handler_view hs)) (handler_tasks hs) → ArePut s0 s6 (play_sites (play_view p.now)) (play_tasks p.now)
play-put a p g x y z hs s0 s1 s2 s3 s4 s5 s6 ep none eg ex ey ez eh p1 p2 p3 p4 p5 p6 =
    subst (λ (q : Bor Play). ArePut s0 s6 (play_sites (play_view q.now)) (play_tasks q.now)) ep
    (whole (eg ∙ own (λ q. q.gathering)) (ex ∙ own (λ q. q.pre_tasks.items)) (ey ∙ own (λ q. q.tasks.items)) (ez ∙ own (λ q. q.post_tasks.items)) (eh ∙ own (λ q. q.handlers.items))) where
      own : {A : Type 0} (f : Play → A) → f p.now ≡ f a.play.now
      own f = ap (λ (q : Bor Play). f q.now) (sym ep)

      top : (ss : List Step) → sites_round a (steps_view ss) ≡ sites_in (play_view a.play.now) no_expressions (entries_view a.play.now.vars.items) (steps_view ss)
      top ss = top-sites a (steps_view ss) none

      whole : g ≡ a.play.now.gathering → x ≡ a.play.now.pre_tasks.items → y ≡ a.play.now.tasks.items → z ≡ a.play.now.post_tasks.items → hs ≡ a.play.now.handlers.items → ArePut s0 s6 (play_sites (play_view a.play.now)) (play_tasks a.play.now)
      whole fg fx fy fz fh =
          let q = play_view a.play.now in
          let line = site_in a thing.Play in
          let inner = λ (ss : List Step). sites_in q no_expressions (entries_view a.play.now.vars.items) (steps_view ss) in
          let work = λ (ks : List Handler). handler_sites q 0 (map handler_view ks) in
          let there : (((((line ∷ [] ++ gathering_sites q g) ++ sites_round a (steps_view x)) ++ sites_round a (steps_view y)) ++ sites_round a (steps_view z)) ++ work hs)
          ≡ (((((line ∷ [] ++ gathering_sites q g) ++ inner x) ++ inner y) ++ inner z) ++ work hs) = rw (top x, top y, top z) refl in
          let here : line ∷ (gathering_sites q g ++ inner x ++ inner y ++ inner z ++ work hs) ≡ play_sites q = rw (fg, fx, fy, fz, fh) refl in
          let done : tasks_in x ++ (tasks_in y ++ (tasks_in z ++ handler_tasks hs)) ≡ play_tasks a.play.now = rw (fx, fy, fz, fh) refl in
          put-as s0 s6 (((((line ∷ [] ++ gathering_sites q g) ++ sites_round a (steps_view x)) ++ sites_round a (steps_view y)) ++ sites_round a (steps_view z)) ++ work hs) (play_sites q)
          (((((([] ++ []) ++ tasks_in x)) ++ tasks_in y) ++ tasks_in z) ++ handler_tasks hs) (play_tasks a.play.now)
          (there ∙ sections-joined line (gathering_sites q g) (inner x) (inner y) (inner z) (work hs) ∙ here)
          (section-tasks (tasks_in x) (tasks_in y) (tasks_in z) (handler_tasks hs) ∙ done)
          (put-then s0 s5 s6 _ (work hs) _ (handler_tasks hs) (put-then s0 s4 s5 _ (sites_round a (steps_view z)) _ (tasks_in z) (put-then s0 s3 s4 _ (sites_round a (steps_view y)) _ (tasks_in y)
          (put-then s0 s2 s3 _ (sites_round a (steps_view x)) _ (tasks_in x) (put-then s0 s1 s2 _ (gathering_sites q g) _ [] p1 p2) p3) p4) p5) p6)

-- up to that play they were put
pub record PlaysPut (now : List Site) (ps : List Play) (i : ℕ) : Type 0 where
  pub lines : map site_view now ++ sites_of (map play_view (drop i ps)) ≡ sites_of (map play_view ps)
  pub tasks : tasks_at now ++ all_tasks (drop i ps) ≡ all_tasks ps

pub next-play : (now next : List Site) (ps : List Play) (i : ℕ) (p : Play) → PlaysPut now ps i → i < length ps → p ≡ get_or ps i p → ArePut now next (play_sites (play_view p)) (play_tasks p) → PlaysPut next ps (i + 1)
next-play now next ps i p h lt e q =
    let rest = drop (i + 1) ps in
    let all = drop-at ps i p lt e in
    record {
      lines = ap (λ ks. ks ++ sites_of (map play_view rest)) q.lines ∙ append_assoc (map site_view now) (play_sites (play_view p)) (sites_of (map play_view rest)) ∙ ap (λ ks. map site_view now ++ sites_of (map play_view ks)) (sym all) ∙ h.lines;
      tasks = ap (λ ks. ks ++ all_tasks rest) q.tasks ∙ append_assoc (tasks_at now) (play_tasks p) (all_tasks rest) ∙ ap (λ ks. tasks_at now ++ all_tasks ks) (sym all) ∙ h.tasks;
    }

pub plays-lines : (now : List Site) (ps : List Play) (i : ℕ) → PlaysPut now ps i → length ps ≤ i → map site_view now ≡ sites_of (map play_view ps)
plays-lines now ps i h past = sym (append-nil (map site_view now)) ∙ ap (λ ks. map site_view now ++ sites_of (map play_view ks)) (sym (drop_all i ps past)) ∙ h.lines

pub plays-tasks : (now : List Site) (ps : List Play) (i : ℕ) → PlaysPut now ps i → length ps ≤ i → tasks_at now ≡ all_tasks ps
plays-tasks now ps i h past = sym (append-nil (tasks_at now)) ∙ ap (λ ks. tasks_at now ++ all_tasks ks) (sym (drop_all i ps past)) ∙ h.tasks
