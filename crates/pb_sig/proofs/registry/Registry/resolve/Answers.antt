use Rattle.std.proofs.Common.{◌≡◌, ◌+◌, ◌<◌, ◌∷◌, true, arith, drop, length, ap, sym, ◌∙◌, refl, add-one, drop-cons}
use Rattle.std.specs.Str.{bytes_eq}
use Rattle.pb_sig.specs.ModuleView.{known_view, shared_view}
use Rattle.pb_sig.proofs.registry.Registry.resolve.Goals as goal

pub returns-then-eq : goal.returns-then-eq
returns-then-eq c =
    let i = c.loop-found.found-index in
    let m = c.found-item.result in
    let ms = c.deref-found-items.result.now in
    let within : i < length ms = omega arith in
    let next : drop i ms ≡ m ∷ drop (i + 1) ms = rw (add-one, drop-cons ms i m, ← c.found-item.is) refl in
    let named = c.name.ensures ∙ ap (λ k. (known_view k).name) c.deref.ensures in
    let same : bytes_eq (shared_view m).name c.args.name.now ≡ true = ap (λ n. bytes_eq n c.args.name.now) (sym named) ∙ sym c.eq.ensures ∙ c.if-eq.true in
    rw (next, same) at c.loop-found.invariant
