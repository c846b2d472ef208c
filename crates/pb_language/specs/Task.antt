-- The tasks of a play as they run: a block's keywords stand at each task in it (Ansible's pages on
-- tasks and blocks).
use Rattle.std.specs.Prelude.{ℕ, List, Bool, Option}
use Rattle.pb_semantics.specs.Signature.{ModuleData}
use Rattle.pb_language.specs.Expression.{Name, Expression, Expressions, Parts}

pub data Action : Type 0 where
  call_of : ModuleData → Parts → Action
  debug : Expression → Action
  set_fact : Parts → Action
  -- what is asserted, and the text where it isn't so
  assertion : Expressions → Option Expression → Action
  failure_of : Option Expression → Action

-- what has to hold for a task to end, and how often its calls are repeated at most until it does
pub record Attempts : Type 0 where
  pub until : Expressions
  pub retries : ℕ

pub record Task : Type 0 where
  pub line : ℕ
  pub place : ℕ
  pub action : Action
  -- every `when` round it, the outer block's first
  pub conditions : Expressions
  pub loop : Option Expression
  pub register : Option Name
  pub changed_when : Option Expressions
  pub failed_when : Option Expressions
  pub attempts : Option Attempts
  pub ignores : Bool
  pub notifies : List Name
  -- it stands in the `block` part of a block with a `rescue`
  pub rescued : Bool
  -- in how many `rescue` parts it stands
  pub depth : ℕ

-- the handlers of a flush in the order in which they are defined, each with its number
pub data Handlers : Type 0 where
  no_handlers : Handlers
  handler : ℕ → Task → Handlers → Handlers

-- a row of tasks, flushes, blocks and sections that force their handlers; a block has the number of
-- `rescue` parts round it, a body, perhaps a rescue, an always, and what follows it; such a section
-- its steps, the flush at its end, and what follows that
pub data Row : Type 0 where
  end : Row
  task : Task → Row → Row
  flush : Handlers → Row → Row
  section : Row → Handlers → Row → Row
  block : ℕ → Row → Bool → Row → Row → Row → Row
