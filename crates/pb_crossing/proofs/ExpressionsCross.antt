-- Expressions may go to another thread, and be shared with one.
use denote.Param.Send.{IsSend, IsSync, sendable}
use Rattle.std.proofs.Crossing as own
use Rattle.std.proofs.MapsCrossing as maps
use Rattle.smallvec.proofs.small_vec.SmallVec.TheSendSync as small
use Rattle.pb_syntax.specs.contracts.expr.Member as Member
use Rattle.pb_syntax.specs.contracts.expr.Term as Term
use Rattle.pb_syntax.specs.contracts.expr.Root as Root
use Rattle.pb_syntax.specs.contracts.expr.Path as Path
use Rattle.pb_syntax.specs.contracts.expr.Expr as Expr
use Rattle.pb_syntax.proofs.expr.Expr.TheLaws.TheKnot as expr-knot
use Rattle.pb_crossing.proofs.ValuesCross as values

ruleset small_vectors = (small.the_send, small.the_sync)

pub Member-field-send : IsSend (Member.the_field).row
Member-field-send = search (values.crosses, maps.crosses, own.crosses, sendable) depth 20

pub Member-field-sync : IsSync (Member.the_field).row
Member-field-sync = search (values.crosses, maps.crosses, own.crosses, sendable) depth 20

pub Member-send : IsSend Member.the_row
Member-send = search (Member-field-send, sendable)

pub Member-sync : IsSync Member.the_row
Member-sync = search (Member-field-sync, sendable)

pub ruleset member = (Member-field-send, Member-field-sync, Member-send, Member-sync)

pub Term-field-send : IsSend (Term.the_field).row
Term-field-send = search (member, values.crosses, maps.crosses, own.crosses, sendable) depth 20

pub Term-field-sync : IsSync (Term.the_field).row
Term-field-sync = search (member, values.crosses, maps.crosses, own.crosses, sendable) depth 20

pub Term-send : IsSend Term.the_row
Term-send = search (Term-field-send, sendable)

pub Term-sync : IsSync Term.the_row
Term-sync = search (Term-field-sync, sendable)

pub ruleset term = (Term-field-send, Term-field-sync, Term-send, Term-sync)

pub Root-field-send : IsSend (Root.the_field).row
Root-field-send = search (member, term, values.crosses, maps.crosses, own.crosses, sendable) depth 20

pub Root-field-sync : IsSync (Root.the_field).row
Root-field-sync = search (member, term, values.crosses, maps.crosses, own.crosses, sendable) depth 20

pub Root-send : IsSend Root.the_row
Root-send = search (Root-field-send, sendable)

pub Root-sync : IsSync Root.the_row
Root-sync = search (Root-field-sync, sendable)

pub ruleset root = (Root-field-send, Root-field-sync, Root-send, Root-sync)

pub Path-field-send : IsSend (Path.the_field).row
Path-field-send = search (root, values.crosses, small_vectors, maps.crosses, own.crosses, sendable) depth 20

pub Path-field-sync : IsSync (Path.the_field).row
Path-field-sync = search (root, values.crosses, small_vectors, maps.crosses, own.crosses, sendable) depth 20

pub Path-send : IsSend Path.the_row
Path-send = search (Path-field-send, sendable)

pub Path-sync : IsSync Path.the_row
Path-sync = search (Path-field-sync, sendable)

pub ruleset path = (Path-field-send, Path-field-sync, Path-send, Path-sync)

pub Expr-field-send : IsSend (Expr.the_field).row
Expr-field-send = search (term, path, values.crosses, maps.crosses, own.crosses, expr-knot.crosses, sendable) depth 60 fits 20000

pub Expr-field-sync : IsSync (Expr.the_field).row
Expr-field-sync = search (term, path, values.crosses, maps.crosses, own.crosses, expr-knot.crosses, sendable) depth 60 fits 20000

pub Expr-send : IsSend Expr.the_row
Expr-send = search (Expr-field-send, sendable)

pub Expr-sync : IsSync Expr.the_row
Expr-sync = search (Expr-field-sync, sendable)

pub ruleset expr = (Expr-field-send, Expr-field-sync, Expr-send, Expr-sync)

pub ruleset crosses = (member, term, root, path, expr)
