-- Messages that are read where they lie.
use denote.Ref.{Bor}
use Rattle.std.proofs.Common.{◌≡◌, Option, Some, None, option_map, option_copied, refl, ap, ◌∙◌}
use Rattle.pb_syntax.specs.ExprView.{expr_view}
use Rattle.pb_syntax.specs.declared.expr.Expr.{Expr}

read : (o : Option (Bor Expr)) → option_map (λ e. expr_view e.now) o ≡ option_map expr_view (option_copied o)
read None = refl
read (Some e) = refl

pub message-read : (o : Option (Bor Expr)) (m : Option Expr) → option_copied o ≡ m → option_map (λ e. expr_view e.now) o ≡ option_map expr_view m
message-read o m is = read o ∙ ap (option_map expr_view) is
