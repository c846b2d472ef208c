-- What a task that ended is for the core.
use Rattle.std.proofs.Common.{◌≡◌, ℕ, List, [], Bool, true, cond, Option, Some, None, option_map, String, string_bytes, refl, ap, ◌∙◌}
use Rattle.std.specs.declared.alloc.Global.{Global}
use Rattle.std.specs.declared.sync.Arc.{Arc}
use denote.Ref.{Bor}
use Rattle.pb_position.specs.Texts.{text_of}
use Rattle.pb_value.specs.View.{view}
use Rattle.pb_value.specs.declared.value.Value.{Value}

pub seen_through : (o : Option (Bor Value)) → option_map (λ v. view v.now) o ≡ option_map view (option_map (λ v. v.now) o)
seen_through None = refl
seen_through (Some v) = refl

abbrev bytes_or : Option (List ℕ) → List ℕ
bytes_or None = []
bytes_or (Some s) = s

text_bytes : (o : Option (Arc (String Global) Global)) → text_of o ≡ bytes_or (option_map (λ s. string_bytes s.value) o)
text_bytes None = refl
text_bytes (Some t) = refl

pub text_told : (o : Option (Arc (String Global) Global)) (b : Bool) (s : List ℕ) → option_map (λ t. string_bytes t.value) o ≡ cond b (Some s) None → b ≡ true → text_of o ≡ s
text_told o b s e h = text_bytes o ∙ ap bytes_or (e ∙ ap (λ q. cond q (Some s) None) h)
