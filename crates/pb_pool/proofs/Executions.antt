-- What holds of a run that a pool brought to its end, or left.
use Rattle.std.proofs.Common.{◌≡◌, ◌<◌, ℕ, ◌+◌, List, [], ◌∷◌, Bool, true, false, ◌||◌, length, get_or, Option, Some, None, IfSome, take, refl, sym, ap, ◌∙◌, arith}
use Rattle.std.specs.Prelude.{All}
use Rattle.std.proofs.lemmas.List.{get_or_default}
use Rattle.pb_language.specs.Machine.{State, opening_hosts, with_batches}
use Rattle.pb_language.specs.Program.{Batch, all_batches}
use Rattle.pb_inventory.specs.Inventory.{inventory_view}
use Rattle.pb_schedule.specs.Schedules.{program_for}
use Rattle.pb_verify.specs.declared.checked.Accepted.{Accepted}
use Rattle.pb_finish.specs.declared.answer.Answer.{Answer}
use Rattle.pb_jobs.specs.declared.job.Call.{Call}
use Rattle.pb_run.specs.Openings.{state_after}
use Rattle.pb_run.specs.Recorded.{data_of, is_none}
use Rattle.pb_run.specs.declared.event.Event.{Event}
use Rattle.pb_executor.specs.States.{RunState, opened, opening_of, state_of}
use Rattle.pb_pool.specs.Executed.{IsAnswerOfOne, IsExecuted, IsLeft, IsOpenedWith}
use Rattle.pb_pool.specs.Kept.{AnswerRule, OpeningRule}
use Rattle.pb_pool.specs.Pools.{IsPooled, MayAnswer}

batches_handed : (s : State) (bs : List Batch) → (with_batches s bs).handed ≡ s.handed
batches_handed s [] = refl
batches_handed s (b ∷ bs) = refl

opened_handed : (a : Accepted) (forks : ℕ) → (state_of (opened a forks)).handed ≡ 0
opened_handed a forks =
    batches_handed
    (record {
      inventory = inventory_view a.inventory;
      forks = forks;
      hosts = opening_hosts (inventory_view a.inventory).hosts;
      batches = [];
      handed = 0;
      is_stuck = false;
      is_stopped = false;
    })
    (all_batches (program_for a))

module _ (of : OpeningRule) (told : AnswerRule) (book : Accepted) (forks : ℕ) (opens : (a : Accepted) (f : ℕ) (es : List Event) → of a f es → IsOpenedWith book forks a f es) (r : RunState) (p : IsPooled of told r) where
  pub opened_with : IsOpenedWith book forks r.accepted r.forks (take p.opened r.history)
  opened_with = opens r.accepted r.forks (take p.opened r.history) p.kept.ruled.opening

  pub is_left : IsLeft book forks r
  is_left = record {
    run = record { book = opened_with.book_is; forks_are = opened_with.forks_are; sound = p.kept.ruled.sound };
    over = p.over;
  }

  -- where it wasn't stopped, it has ended
  pub is_executed : (state_of r).is_stopped ≡ false → IsExecuted book forks r
  is_executed going = record {
    run = is_left.run;
    ended = ap (λ q. q || is_none (state_of r).batches) (sym going) ∙ p.over;
    going_on = going;
  }

  -- all its calls were handed out at the board
  pub all_handed : p.handed ≡ (state_of r).handed
  all_handed =
      let none = ap (λ es. (state_after (opening_of r) (data_of es)).handed) opened_with.none ∙ opened_handed r.accepted r.forks in
      omega (arith, none, p.kept.handed)

-- the same of a run that comes back or not
pub are_left : (o : Option RunState) (P Q : RunState → Type 0) → ((r : RunState) → P r → Q r) → IfSome o P → IfSome o Q
are_left None P Q along p = p
are_left (Some r) P Q along p = along r p

module _ {R : Type 0} (answers : R → Call → Answer → R → Type 0) (short : R → Bool) (of : OpeningRule) where
  -- what one of the runners answers is allowed to each
  pub each_may : (firsts : List R) → All (MayAnswer answers short of (IsAnswerOfOne answers short firsts of)) firsts
  each_may firsts = λ i d within. λ t k xs x. (i, get_or firsts i d, within, same_at firsts i d within, x) where
    same_at : (rs : List R) (i : ℕ) (d : R) → i < length rs → get_or rs i (get_or rs i d) ≡ get_or rs i d
    same_at rs i d within = get_or_default rs i (get_or rs i d) d within
