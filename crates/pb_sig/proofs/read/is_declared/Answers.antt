use Rattle.std.proofs.Common.{◌≡◌, ◌+◌, ◌<◌, ◌∷◌, ◌||◌, false, arith, length, drop, map, ap, sym, ◌∙◌, refl, add-one, drop-cons}
use Rattle.std.specs.Str.{bytes_eq}
use Rattle.pb_semantics.specs.Keeps.{is_among}
use Rattle.pb_sig.specs.ModuleView.{known_view, shared_view}
use Rattle.pb_sig.specs.Signatures.{names_of}
use Rattle.pb_sig.proofs.read.is_declared.Goals as goal

pub loop-module-preserved : goal.loop-module-preserved
loop-module-preserved c =
    let i = c.loop-module.module-index in
    let m = c.module-item.result in
    let ms = c.args.earlier.now in
    let n = c.args.name.now in
    let rest = is_among n (names_of (map shared_view (drop (i + 1) ms))) in
    let within : i < length ms = omega arith in
    let next : drop i ms ≡ m ∷ drop (i + 1) ms = rw (add-one, drop-cons ms i m, ← c.module-item.is) refl in
    let named = c.name.ensures ∙ ap (λ k. (known_view k).name) c.deref.ensures in
    let other : bytes_eq n (shared_view m).name ≡ false = ap (bytes_eq n) (sym named) ∙ sym c.eq.ensures ∙ c.if-eq.false in
    sym (ap (λ xs. is_among n (names_of (map shared_view xs))) next ∙ ap (λ q. q || rest) other) ∙ c.loop-module.invariant
