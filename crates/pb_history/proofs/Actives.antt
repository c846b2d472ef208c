-- Active hosts stay active while they go on.
use Rattle.std.proofs.Common.{◌≡◌, ℕ, zero, suc, List, [], ◌∷◌, ◌&&◌, ◌||◌, cond, Some, unwrap_or, refl, sym, ap, ap₂, ◌∙◌}
use Rattle.std.specs.Str.{bytes_eq}
use Rattle.pb_language.specs.Expression.{Name}
use Rattle.pb_machine.specs.Hosts.{FlatHost}
use Rattle.pb_machine.specs.Run.{host_at, is_active_host, is_on, put_host, still_active}

active_put : (k : ℕ) (h g : FlatHost) (hs : List FlatHost) (n : Name) → host_at k hs ≡ Some h → g.name ≡ h.name → is_on g ≡ is_on h → is_active_host n (put_host k g hs) ≡ is_active_host n hs
active_put k h g [] n e name on = refl
active_put zero h g (x ∷ hs) n e name on =
    let same : h ≡ x = ap (λ o. unwrap_or o h) (sym e) in
    ap₂ (λ a b. (a && bytes_eq n b) || is_active_host n hs) (on ∙ ap is_on same) (name ∙ ap (λ y. y.name) same)
active_put (suc k) h g (x ∷ hs) n e name on = ap (λ q. (is_on x && bytes_eq n x.name) || q) (active_put k h g hs n e name on)

-- a host gives way to one of the same name that is active where it was
pub still_put : (k : ℕ) (h g : FlatHost) (hs : List FlatHost) (ns : List Name) → host_at k hs ≡ Some h → g.name ≡ h.name → is_on g ≡ is_on h → still_active (put_host k g hs) ns ≡ still_active hs ns
still_put k h g hs [] e name on = refl
still_put k h g hs (n ∷ ns) e name on = ap₂ (λ q ms. cond q (n ∷ ms) ms) (active_put k h g hs n e name on) (still_put k h g hs ns e name on)
