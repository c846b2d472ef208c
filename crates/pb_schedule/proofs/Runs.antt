-- Plays as they run, and batches of them, are those of the program.
use Rattle.std.proofs.Common.{◌≡◌, ◌∙◌, ◌<◌, ℕ, zero, suc, List, [], ◌∷◌, Some, length, map, slice_get, refl, sym, ap, ap₂, subst}
use Rattle.std.specs.List.{All}
use Rattle.std.proofs.lemmas.List.Elements.{All-head, All-tail}
use Rattle.pb_language.specs.Book.{HandlerData, PlayData, Registry}
use Rattle.pb_language.specs.Expression.{Name}
use Rattle.pb_language.specs.Notify.{HandlerNames}
use Rattle.pb_language.specs.Plays.{names_of_handlers, pattern_hosts, play_row, play_with}
use Rattle.pb_language.specs.Program as program
use Rattle.pb_language.specs.Program.{Inventory}
use Rattle.pb_language.specs.Task.{Task}
use Rattle.pb_language.specs.World.{HostVariables}
use Rattle.pb_inventory.specs.Words.{names_at, name_of}
use Rattle.pb_play.specs.Words.{play_view}
use Rattle.pb_play.specs.declared.play.Play.{Play}
use Rattle.pb_steps.specs.Outlines.{plan_view, play_plan}
use Rattle.pb_steps.specs.Tasks.{ArePrepared}
use Rattle.pb_steps.specs.Uses.{AreUsed}
use Rattle.pb_steps.specs.declared.step.Step.{Step}
use Rattle.pb_batches.specs.Batches.{AreBatchesOf, IsBatchOf, batch_view}
use Rattle.pb_batches.specs.declared.batch.PlayBatch.{PlayBatch}
use Rattle.pb_core.specs.Cores.{AreBatches, AreNotified, IsBatch, IsPlay, row_tasks}
use Rattle.pb_core.specs.declared.batch.Batch.{Batch}
use Rattle.pb_core.specs.declared.batch.RunPlay.{RunPlay}

-- ---- a play

notified : (names : List Name) (hs : List HandlerNames) (ss : List Step) (ts : List Task) → AreUsed names hs ss ts → AreNotified hs ss ts
notified names hs [] [] u = tt
notified names hs [] (t ∷ ts) u = absurd u
notified names hs (s ∷ ss) [] u = absurd u
notified names hs (s ∷ ss) (t ∷ ts) u = ((u.0).notifies, notified names hs ss ts u.1)

each-handler : (hs : List HandlerData) → length hs ≡ length (names_of_handlers hs)
each-handler [] = refl
each-handler (h ∷ hs) = ap suc (each-handler hs)

-- of whatever hosts
abbrev pub IsRunOf : Registry → RunPlay → PlayData → Type 0
IsRunOf ms r p = (hs : List Name) → IsPlay r (play_with ms p hs)

pub play-runs : (ms : Registry) (names : List Name) (r : RunPlay) (p : PlayData) → plan_view r.plan ≡ play_plan ms p → AreUsed names (names_of_handlers p.handlers) r.plan.steps.items (row_tasks (play_row ms p))
    → ArePrepared r.tasks.items (row_tasks (play_row ms p)) → r.plan.handlers ≡ length p.handlers → r.is_linear ≡ p.is_linear → IsRunOf ms r p
play-runs ms names r p plan uses tasks handlers linear = λ hs. record {
  plan = plan;
  tasks = tasks;
  notified = notified names (names_of_handlers p.handlers) r.plan.steps.items (row_tasks (play_row ms p)) uses;
  handlers = handlers ∙ each-handler p.handlers;
  linear = linear;
}

-- ---- plays in the order of the book

abbrev pub AreRunsOf : Registry → List RunPlay → List PlayData → Type 0
AreRunsOf ms [] [] = Unit {0}
AreRunsOf ms (r ∷ rs) (p ∷ ps) = IsRunOf ms r p × AreRunsOf ms rs ps
AreRunsOf ms rs ps = ⊥

run-at : (ms : Registry) (rs : List RunPlay) (ps : List Play) (n : ℕ) (p : Play) → AreRunsOf ms rs (map play_view ps) → slice_get ps n ≡ Some p → (r : RunPlay) × (slice_get rs n ≡ Some r) × IsRunOf ms r (play_view p)
run-at ms [] [] n p h is = absurd (cc)
run-at ms [] (q ∷ ps) n p h is = absurd h
run-at ms (r ∷ rs) [] n p h is = absurd h
run-at ms (r ∷ rs) (q ∷ ps) zero p h is = let same : q ≡ p = cc in (r, refl, subst (λ (x : Play). IsRunOf ms r (play_view x)) same h.0)
run-at ms (r ∷ rs) (q ∷ ps) (suc n) p h is = run-at ms rs ps n p h.1 is

-- ---- batches

members-named : (name : ℕ → Name) (hs : List HostVariables) (ks : List ℕ) → ((k : ℕ) → k < length hs → name k ≡ name_of (map (λ h. h.name) hs) k) → All (λ k. k < length hs) ks → names_at (map (λ h. h.name) hs) ks ≡ map name ks
members-named name hs [] named within = refl
members-named name hs (k ∷ ks) named within =
    ap₂ (λ (n : Name) (ns : List Name). n ∷ ns) (sym (named k (All-head (λ k. k < length hs) k ks within))) (members-named name hs ks named (All-tail (λ k. k < length hs) k ks within))

abbrev parts_of : Batch → ℕ × List ℕ
parts_of b = (b.play, b.members.items)

module _ (ms : Registry) (i : Inventory) (plays : List Play) (rs : List RunPlay) (name : ℕ → Name) where
  abbrev Named : Type 0
  Named = (k : ℕ) → k < length i.hosts → name k ≡ name_of (map (λ h. h.name) i.hosts) k

  abbrev IsWithin : PlayBatch → Type 0
  IsWithin b = All (λ h. h < length i.hosts) b.members.items

  batch-runs : AreRunsOf ms rs (map play_view plays) → Named → (b : PlayBatch) (c : Batch) (d : program.Batch) → parts_of c ≡ batch_view b → IsWithin b → IsBatchOf ms i plays b.play b.members.items d → IsBatch name rs c d
  batch-runs runs named b c d same within of =
      let hosts = pattern_hosts i [] (play_view of.play).pattern in
      let there = run-at ms rs plays b.play of.play runs of.is in record {
        play = there.0;
        is = ap (slice_get rs) (ap (λ (x : ℕ × List ℕ). x.0) same) ∙ there.1;
        denotes = subst (IsPlay there.0) (sym of.denotes) (there.2 hosts);
        members = of.members ∙ members-named name i.hosts b.members.items named within ∙ ap (map name) (sym (ap (λ (x : ℕ × List ℕ). x.1) same));
      }

  pub batches-run : AreRunsOf ms rs (map play_view plays) → Named → (bs : List PlayBatch) (cs : List Batch) (ds : List program.Batch) → map parts_of cs ≡ map batch_view bs → All IsWithin bs → AreBatchesOf ms i plays bs ds → AreBatches name rs cs ds
  batches-run runs named [] [] [] same within of = tt
  batches-run runs named [] [] (d ∷ ds) same within of = absurd of
  batches-run runs named [] (c ∷ cs) ds same within of = absurd (cc)
  batches-run runs named (b ∷ bs) [] ds same within of = absurd (cc)
  batches-run runs named (b ∷ bs) (c ∷ cs) [] same within of = absurd of
  batches-run runs named (b ∷ bs) (c ∷ cs) (d ∷ ds) same within of =
      let first : parts_of c ≡ batch_view b = cc in
      let others : map parts_of cs ≡ map batch_view bs = cc in
      (batch-runs runs named b c d first (All-head IsWithin b bs within) of.0, batches-run runs named bs cs ds others (All-tail IsWithin b bs within) of.1)
