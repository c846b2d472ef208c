-- Readings that agree read the same states.
use Rattle.std.proofs.Common.{◌≡◌, ℕ, List, [], ◌∷◌, map, drop, Option, Some, None, slice_get, refl, ap₂, ◌∙◌}
use Rattle.pb_language.specs.Expression.{Name}
use Rattle.pb_language.specs.Program as program
use Rattle.pb_machine.specs.Hosts.{FlatHost, FlatStage, stands, works}
use Rattle.pb_machine.specs.Run.{FlatState, host_at}
use Rattle.pb_core.specs.declared.batch.Batch.{Batch}
use Rattle.pb_core.specs.declared.batch.RunPlay.{RunPlay}
use Rattle.pb_core.specs.declared.host.HostState.{HostState}
use Rattle.pb_core.specs.declared.host.Stage.{Stage}
use Rattle.pb_core.specs.declared.host.Stage.TheVariants.{Waits, Runs}
use Rattle.pb_core.specs.declared.run.RunCore.{RunCore}
use Rattle.pb_core.specs.Readings.{Reading, Agree}
use Rattle.pb_core.specs.Hosts.{PlaySize, IsStage, IsHostAt}
use Rattle.pb_core.specs.Cores.{AreBatches, IsCore, scheduled_batches, scheduled_plays, size_of}

names_agree : (m n : ℕ → Name) → ((k : ℕ) → m k ≡ n k) → (ks : List ℕ) → map m ks ≡ map n ks
names_agree m n same [] = refl
names_agree m n same (k ∷ ks) = ap₂ (λ x xs. x ∷ xs) (same k) (names_agree m n same ks)

batches_agree : (m n : ℕ → Name) → ((k : ℕ) → m k ≡ n k) → (plays : List RunPlay) (cs : List Batch) (bs : List program.Batch) → AreBatches m plays cs bs → AreBatches n plays cs bs
batches_agree m n same plays [] [] i = i
batches_agree m n same plays [] (b ∷ bs) i = absurd i
batches_agree m n same plays (c ∷ cs) [] i = absurd i
batches_agree m n same plays (c ∷ cs) (b ∷ bs) i = (
  record {
    play = i.0.play;
    is = i.0.is;
    denotes = i.0.denotes;
    members = i.0.members ∙ names_agree m n same c.members.items;
  },
  batches_agree m n same plays cs bs i.1,
)

module _ {P : Type 0} (a b : Reading P) (agree : Agree a b) where
  stage_agrees : (x : Stage P) (g : FlatStage) → IsStage a x g → IsStage b x g
  stage_agrees Waits (stands l) i = i
  stage_agrees Waits (works n j qs) i = absurd i
  stage_agrees (Runs t n c ps) (stands l) i = absurd i
  stage_agrees (Runs t n c ps) (works m j qs) i = (i.0, i.1 ∙ agree.passes ps, i.2)

  host_agrees : (z : PlaySize) (k : ℕ) (o : Option (HostState P)) (p : Option FlatHost) → IsHostAt a z k o p → IsHostAt b z k o p
  host_agrees z k None None i = i
  host_agrees z k None (Some h) i = absurd i
  host_agrees z k (Some x) None i = absurd i
  host_agrees z k (Some x) (Some h) i = record {
    position = i.position;
    stage = stage_agrees x.stage h.stage i.stage;
    fits = i.fits;
    name_is = i.name_is ∙ agree.name k;
    variables = i.variables ∙ agree.variables k;
    recap = i.recap;
  }

  pub core_agrees : (c : RunCore P) (s : FlatState) → IsCore a c s → IsCore b c s
  core_agrees c s i = record {
    hosts = λ k. host_agrees (size_of s.batches) k (slice_get c.hosts.items k) (host_at k s.hosts) (i.hosts k);
    batches = batches_agree a.name b.name agree.name (scheduled_plays c) (drop c.current (scheduled_batches c)) s.batches i.batches;
    index = i.index;
    forks = i.forks;
    handed = i.handed;
    stopped = i.stopped;
  }
