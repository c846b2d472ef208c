-- What the program comes to: what it prints where, and its status.
use Rattle.std.specs.Prelude.{◌≡◌, ◌≤◌, ◌⊎◌, ℕ, List, Bool, length, max, min, option_map, take}
use Rattle.std.specs.Prelude.{true, false, Result, Ok, Err, IsErr, string_bytes}
use Rattle.std.specs.declared.alloc.AllocError.{AllocError}
use Rattle.pb_semantics.specs.Data.{Fields}
use Rattle.pb_semantics.specs.Limits.{most_answer_bytes}
use Rattle.pb_inventory.specs.Inventory.{inventory_view}
use Rattle.pb_verify.specs.declared.checked.Accepted.{Accepted}
use Rattle.pb_finish.specs.declared.answer.Answer.{Answer}
use Rattle.pb_jobs.specs.declared.job.Call.{Call}
use Rattle.pb_run.specs.Recorded.{is_none}
use Rattle.pb_runner.specs.Scripts.{IsFromFile, script_in}
use Rattle.pb_runner.specs.declared.script.ScriptFault.{ScriptFault}
use Rattle.pb_runner.specs.declared.script.ScriptRunner.{ScriptRunner}
use Rattle.pb_executor.specs.Sound.{IsSound}
use Rattle.pb_executor.specs.States.{RunState, state_of}
use Rattle.pb_pool.specs.Executed.{IsAnswerOfOne, IsOpenedWith}
use Rattle.pb_pool.specs.Kept.{AllTold}
use Rattle.pb_pool.specs.declared.fault.PoolFault.{PoolFault}
use Rattle.pb_pool.specs.declared.fault.PoolFault.TheVariants.{NoThread}
use Rattle.pb_pool.specs.declared.fault.PoolFault.TheVariants as pool
use Rattle.pb_cli.specs.FileVerdicts.{HasScriptFault, Judges, of_script}
use Rattle.pb_cli.specs.Texts.{recaps_of, refusal_line, run_lines, status_for, verdict_line}
use Rattle.pb_cli.specs.declared.judge.Fault.{Fault}
use Rattle.pb_cli.specs.declared.judge.Fault.TheVariants.{Refused, NoMemory}
use Rattle.pb_cli.specs.declared.outcome.Bytes.{Bytes}
use Rattle.pb_cli.specs.declared.outcome.Outcome.{Outcome}
use Rattle.pb_cli.specs.declared.outcome.Stream.{Stream}
use Rattle.pb_cli.specs.declared.outcome.Stream.TheVariants.{Output, Error}
use Rattle.pb_cli.specs.declared.want.Want.{Want}
use Rattle.pb_cli.specs.declared.want.Want.TheVariants.{Memory, Thread}
use Rattle.pb_options.specs.declared.words.LineFault.{LineFault}
use Rattle.pb_options.specs.declared.words.LineFault.TheVariants as words
use Rattle.pb_options.specs.declared.words.Options.{Options}
use Rattle.pb_options.specs.declared.words.Options.TheVariants.{Check, Run}
use Rattle.pb_options.specs.declared.words.Source.{Source}
use Rattle.pb_options.specs.declared.words.Source.TheVariants.{Answers, Modules}

-- the statuses: all is well, a refusal, a bad command line
abbrev pub fine_status : ℕ
fine_status = 0

abbrev pub refused_status : ℕ
refused_status = 1

abbrev pub usage_status : ℕ
usage_status = 64

-- on words that name no options
abbrev pub LineSays : LineFault → Result Outcome AllocError → Type 0
LineSays (words.Help text) r = r ≡ Ok (record { stream = Error; text = text; status = fine_status })
LineSays (words.Version text) r =
    r ≡ Ok (record { stream = Output; text = text; status = fine_status })
LineSays (words.Line text) r =
    r ≡ Ok (record { stream = Error; text = text; status = usage_status })
LineSays words.NoMemory r = IsErr r

-- that text is printed there, and that is the status
pub record Prints (stream : Stream) (line : List ℕ) (code : ℕ) (o : Outcome) : Type 0 where
  pub printed : o.stream ≡ stream
  pub text : string_bytes o.text ≡ line
  pub status : o.status ≡ code

abbrev pub VerdictSays : Result Accepted Fault → Outcome → Type 0
VerdictSays (Ok a) o = Prints Output (verdict_line (Ok a)) fine_status o
VerdictSays (Err (Refused r)) o = Prints Output (refusal_line r) refused_status o
VerdictSays (Err NoMemory) o = ⊥

abbrev pub RunSays : Result RunState Fault → Outcome → Type 0
RunSays (Ok r) o = Prints Output (run_lines r) (status_for (recaps_of r)) o
RunSays (Err (Refused r)) o = Prints Output (refusal_line r) refused_status o
RunSays (Err NoMemory) o = ⊥

-- the verdict on the files
abbrev pub JudgesFiles : Bytes → Result Accepted Fault → Type 0
JudgesFiles b r = Judges (option_map (λ s. s.items) b.signatures) b.inventory.items b.book.items r

-- as many workers as there are hosts, at most so many and at least one
abbrev pub workers : ℕ → Accepted → ℕ
workers most a = max (min most (length (inventory_view a.inventory).hosts)) 1

-- what wasn't there where a pool gives up
abbrev pub want_in : PoolFault → Want
want_in (pool.NoMemory r) = Memory
want_in (NoThread r) = Thread

-- a run of that book to its end
pub record IsWholeRun (most : ℕ) (a : Accepted) (r : RunState) : Type 0 where
  pub book : r.accepted ≡ a
  pub forks : r.forks ≡ workers most a
  pub sound : IsSound r
  pub ended : is_none (state_of r).batches ≡ true
  pub going_on : (state_of r).is_stopped ≡ false

-- each Give of the run has just the file's answers to the calls of a job that a run of the book
-- hands out by that ticket, in order
pub record IsAnsweredBy (file : Fields) (a : Accepted) (r : RunState) : Type 0 where
  pub runners : List ScriptRunner
  pub told : AllTold (IsAnswerOfOne (IsFromFile file) (λ s. s.is_short) runners
      (IsOpenedWith a r.forks)) r.history

-- a run of that book to its end, with the answers that are in the bytes
pub record IsScriptedRun (most : ℕ) (answers : List ℕ) (a : Accepted) (r : RunState) : Type 0 where
  pub whole : IsWholeRun most a r
  pub file : Fields
  pub short : length answers ≤ most_answer_bytes
  pub read : script_in answers ≡ Ok file
  pub answered : IsAnsweredBy file a r

-- what becomes of the run of an accepted book: the fault of the answers, or the run
abbrev pub RunsAccepted : ℕ → List ℕ → Accepted → Result RunState Fault → Type 0
RunsAccepted forks answers a (Ok r) = IsScriptedRun forks answers a r
RunsAccepted forks answers a (Err f) = (f ≡ NoMemory)
    ⊎ ((s : ScriptFault) × ((f ≡ of_script s) × HasScriptFault answers s))

-- the verdict comes first: its fault, or what becomes of the run of what it accepts
abbrev pub RunsFiles : ℕ → Bytes → Result RunState Fault → Type 0
RunsFiles forks b r = ((f : Fault) × (JudgesFiles b (Err f) × (r ≡ Err f)))
    ⊎ ((a : Accepted) × (JudgesFiles b (Ok a) × RunsAccepted forks b.answers.items a r))

-- what `check` comes to
abbrev pub ChecksAs : Bytes → Outcome → Type 0
ChecksAs b o = (r : Result Accepted Fault) × (JudgesFiles b r × VerdictSays r o)

-- what the run of an accepted book comes to
abbrev pub RunsAcceptedAs : ℕ → List ℕ → Accepted → Outcome → Type 0
RunsAcceptedAs forks answers a o =
    (r : Result RunState Fault) × (RunsAccepted forks answers a r × RunSays r o)

-- what `run` comes to
abbrev pub RunsAs : ℕ → Bytes → Outcome → Type 0
RunsAs forks b o = (r : Result RunState Fault) × (RunsFiles forks b r × RunSays r o)

-- as many programs as there may be workers that put calls to them
abbrev pub programs_for : Source → ℕ → ℕ
programs_for (Answers name) forks = 0
programs_for (Modules name) forks = max forks 1

abbrev pub most_programs : Options → ℕ
most_programs (Check s) = 0
most_programs (Run s forks source calling) = programs_for source forks

-- by what is said of runners, which have made no calls yet
module _ {R : Type 0} (answers : R → Call → Answer → R → Type 0) (short : R → Bool)
    (programs : List R) where
  -- a run of that book to its end, each Give of which has just what the runner of one of its
  -- workers answers to the calls of a job that a run of the book hands out by that ticket, in order
  pub record IsRunBy (most : ℕ) (a : Accepted) (r : RunState) : Type 0 where
    pub whole : IsWholeRun most a r
    pub told : AllTold (IsAnswerOfOne answers short (take (workers most a) programs)
        (IsOpenedWith a r.forks)) r.history

  -- what the run of an accepted book comes to
  abbrev pub RunsAcceptedWith : ℕ → Accepted → Outcome → Type 0
  RunsAcceptedWith forks a o = (r : RunState) × (IsRunBy forks a r × RunSays (Ok r) o)

  -- what `run` comes to: the verdict's fault, or what the run of what it accepts does
  abbrev pub RunsWith : ℕ → Bytes → Outcome → Type 0
  RunsWith forks b o = ((f : Fault) × (JudgesFiles b (Err f) × RunSays (Err f) o))
      ⊎ ((a : Accepted) × (JudgesFiles b (Ok a) × RunsAcceptedWith forks a o))

  -- the file of answers, or the runners, answer the calls
  abbrev pub RunsBy : Source → ℕ → Bytes → Outcome → Type 0
  RunsBy (Answers name) forks b o = RunsAs forks b o
  RunsBy (Modules name) forks b o = RunsWith forks b o

  -- what the options and the files come to
  abbrev pub IsOutcome : Options → Bytes → Outcome → Type 0
  IsOutcome (Check s) b o = ChecksAs b o
  IsOutcome (Run s forks source calling) b o = RunsBy source forks b o
