-- What a token of a text is, which one is the next, and what it is that there is none.
use Rattle.std.specs.Prelude.{◌≡◌, ℕ, ◌+◌, ◌≤◌, List, length, drop}
use Rattle.pb_language.specs.Tokens.{tokens_of, unreadable}
use Rattle.pb_syntax.specs.Letters.{IsSpelled, tokens_at}
use Rattle.pb_syntax.specs.Place.{place_of, least_width}
use Rattle.pb_syntax.specs.declared.fault.ExprFault.{ExprFault}
use Rattle.pb_syntax.specs.declared.lexer.Token.{Token}

-- a token that the text has
pub record IsToken (bs : List ℕ) (t : Token) : Type 0 where
  pub wide : t.start + least_width t.sort ≤ t.end
  pub within : t.end ≤ length bs
  pub spelled : IsSpelled bs t

-- the first token at that place or behind it
pub record IsNext (bs : List ℕ) (from : ℕ) (t : Token) : Type 0 where
  pub begins : from ≤ t.start
  pub token : IsToken bs t
  pub read : tokens_at bs t ≡ tokens_of (drop from bs)

-- the text has no tokens from that place on, and the fault's place lies in the text
pub record IsNoToken (bs : List ℕ) (from : ℕ) (e : ExprFault) : Type 0 where
  pub refused : tokens_of (drop from bs) ≡ unreadable
  pub place : place_of e ≤ length bs
