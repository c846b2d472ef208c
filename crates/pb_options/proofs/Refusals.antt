-- What a fault of the command line says of the words.
use Rattle.std.proofs.Common.{◌≡◌, ◌⊎◌, List, [], Option, inl, inr, sym, ap, subst, ◌∙◌}
use Rattle.clap.specs.Words.{IsAmong, Kinds, Row, Text}
use Rattle.clap.specs.declared.error.kind.ErrorKind.{ErrorKind}
use Rattle.clap.specs.declared.error.kind.ErrorKind.TheVariants.{OutOfMemory}
use Rattle.pb_options.specs.Options.{IsMistakeWhere, IsOfKind, IsRefusal, SaysNone, is_mistake}
use Rattle.pb_options.specs.declared.words.LineFault.{LineFault}
use Rattle.pb_options.specs.declared.words.LineFault.TheVariants.{Help, Version, Line, NoMemory}

-- where `clap` finds nothing wrong
pub IsRefusal-none : (ks : Kinds) (found : Option (Text × List Row)) → ks ≡ [] → (f : LineFault) → IsMistakeWhere (SaysNone found) f → IsRefusal ks found f
IsRefusal-none ks found none (Help text) says = absurd says
IsRefusal-none ks found none (Version text) says = absurd says
IsRefusal-none ks found none (Line text) says = inl (none, says)
IsRefusal-none ks found none NoMemory says = tt

-- where `clap`'s error is of that kind
pub IsRefusal-told : (ks : Kinds) (found : Option (Text × List Row)) (k : ErrorKind) (f : LineFault) → (k ≡ OutOfMemory) ⊎ IsAmong k ks → IsOfKind f k → IsRefusal ks found f
IsRefusal-told ks all k (Help text) (inl out) is = let clash = sym is ∙ out in cc
IsRefusal-told ks all k (Help text) (inr found) is = subst (λ x. IsAmong x ks) is found
IsRefusal-told ks all k (Version text) (inl out) is = let clash = sym is ∙ out in cc
IsRefusal-told ks all k (Version text) (inr found) is = subst (λ x. IsAmong x ks) is found
IsRefusal-told ks all k (Line text) (inl out) is = let clash = sym (ap is_mistake out) ∙ is in cc
IsRefusal-told ks all k (Line text) (inr found) is = inr (k, (found, is))
IsRefusal-told ks all k NoMemory found is = tt
