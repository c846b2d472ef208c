-- What reading from a token gives: something and the token behind it, or a fault.
use Rattle.std.specs.Prelude.{◌≡◌, ℕ, ◌≤◌, List, length, Option, Some, None, String, string_bytes}
use Rattle.std.specs.declared.alloc.Global.{Global}
use Rattle.pb_semantics.specs.Gives.{FaultGives}
use Rattle.pb_language.specs.Expression.{Expression, Name}
use Rattle.pb_language.specs.Grammar.{Reader, Reading, reading, with_tree, Next, no_step, a_step}
use Rattle.pb_language.specs.Grammar.{go_on}
use Rattle.pb_language.specs.Tokens.{Tokens, unreadable}
use Rattle.pb_syntax.specs.Forms.{related_by}
use Rattle.pb_syntax.specs.Letters.{tokens_at}
use Rattle.pb_syntax.specs.Lexed.{IsToken}
use Rattle.pb_syntax.specs.Place.{place_of}
use Rattle.pb_syntax.specs.Trees.{no_tree}
use Rattle.pb_syntax.specs.declared.expr.Member.{Member}
use Rattle.pb_syntax.specs.declared.fault.ExprFault.{ExprFault}
use Rattle.pb_syntax.specs.declared.lexer.Sort.{Sort}
use Rattle.pb_syntax.specs.declared.lexer.Token.{Token}

-- that is read from the first token on, and this token stands behind it
pub record IsRead (A T : Type 0) (view : A → T) (bs : List ℕ) (t : Token) (r : A × Token)
    (x : Option (Reading T)) : Type 0 where
  pub begins : t.start ≤ r.1.start
  pub next : IsToken bs r.1
  pub tree : x ≡ Some (reading (view r.0) (tokens_at bs r.1))

-- there is nothing to be read, want of memory aside, and the place lies in the text
pub record IsRefused (X : Type 0) (bs : List ℕ) (e : ExprFault) (x : Option X) : Type 0 where
  pub place : place_of e ≤ length bs
  pub refused : FaultGives (no_tree e) x

-- the first operand with what relates it to the second, or alone
abbrev pub read_on : List ℕ → Token → Option (Sort × Token) → Expression → Reader
    → Option (Reading Expression)
read_on bs t None a f = Some (reading a (tokens_at bs t))
read_on bs t (Some r) a f = with_tree (λ b. related_by r.0 a b) (f (tokens_at bs r.1))

-- a step and the token behind it
abbrev pub next_view : List ℕ → Option (String Global × Token) → Next
next_view bs None = no_step
next_view bs (Some s) = a_step (string_bytes s.0) (tokens_at bs s.1)

-- there is no step, or the tokens behind it can't be read
abbrev pub IsNoStep : List ℕ → ExprFault → Next → Type 0
IsNoStep bs e n = (ts : Tokens) (more : Tokens → Option (Reading (List Name)))
    → more unreadable ≡ None → IsRefused (Reading (List Name)) bs e (go_on n ts more)

abbrev pub member_view : Member → Name × ℕ
member_view m = (string_bytes m.group, m.place)
