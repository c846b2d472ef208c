-- For each play what each host has at its later places, with that of one host more.
use Rattle.std.specs.Prelude.{ℕ, zero, suc, List, [], ◌∷◌, ◌++◌, map, Option, Some, None, cond}
use Rattle.std.specs.Prelude.{option_map}
use Rattle.std.specs.Global.{Vec}
use Rattle.std.specs.declared.alloc.Global.{Global}
use Rattle.std.specs.declared.sync.Arc.{Arc}
use Rattle.pb_play.specs.Plays.{is_linear}
use Rattle.pb_hosts.specs.declared.lasting.Lasting.{Lasting}
use Rattle.pb_tables.specs.declared.scene.Scene.{Scene}

abbrev pub lasting_there : Option (Vec (Arc Lasting Global)) → Option (List Lasting)
lasting_there o = option_map (λ v. map (λ l. l.value) v.items) o

abbrev pub lasting_lists : List (Option (Vec (Arc Lasting Global))) → List (Option (List Lasting))
lasting_lists os = map lasting_there os

-- of no host yet
abbrev pub nobody_yet : Scene → Option (List Lasting)
nobody_yet s = cond (is_linear s.cast.play.now.strategy) (Some []) None

abbrev pub put_last : {A : Type 0} → A → Option (List A) → Option (List A)
put_last l o = option_map (λ ls. ls ++ l ∷ []) o

-- in the play of that number
abbrev pub put_at : {A : Type 0} → ℕ → A → List (Option (List A)) → List (Option (List A))
put_at n l [] = []
put_at zero l (o ∷ os) = put_last l o ∷ os
put_at (suc n) l (o ∷ os) = o ∷ put_at n l os

-- in each play
abbrev pub put_each : {A : Type 0} → List (Option (List A)) → List A → List (Option (List A))
put_each [] ls = []
put_each (o ∷ os) [] = o ∷ os
put_each (o ∷ os) (l ∷ ls) = put_last l o ∷ put_each os ls
