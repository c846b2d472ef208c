-- Plays with the tasks that gather their facts, and with their scenes, one more each time.
use Rattle.std.proofs.Common.{◌≡◌, ℕ, zero, suc, List, [], ◌∷◌, ◌++◌, Option, Some, None, map, slice_get, refl, ap, subst}
use Rattle.pb_language.specs.Book.{Registry}
use Rattle.pb_language.specs.Plays.{pattern_hosts, play_with, program_of}
use Rattle.pb_language.specs.Program.{Program, Play as ProgramPlay}
use Rattle.pb_inventory.specs.Inventory.{inventory_view}
use Rattle.pb_inventory.specs.declared.inventory.Inventory.{Inventory}
use Rattle.pb_play.specs.Plays.{play_view}
use Rattle.pb_play.specs.Sound.{AreSound, all_tasks, play_tasks}
use Rattle.pb_play.specs.declared.play.Play.{Play}
use Rattle.pb_flow.proofs.Sounds.{sound-left, sound-right}
use Rattle.pb_task.specs.declared.task.Task.{Task}
use Rattle.pb_tables.specs.Scenes.{AreScenes, IsScene}
use Rattle.pb_tables.specs.declared.scene.Scene.{Scene}
use Rattle.pb_route.specs.Routes.{Gathers}
use Rattle.pb_verify.specs.Scenes.{AllGather, gathered_at}

-- the scenes of the first plays, and of one more
pub scenes_more : (i : Inventory) (ps : Program) (ss : List Scene) (p : ProgramPlay) (s : Scene) → AreScenes i ps ss → IsScene i p s → AreScenes i (ps ++ p ∷ []) (ss ++ s ∷ [])
scenes_more i [] [] p s a x = (x, tt)
scenes_more i [] (t ∷ ss) p s a x = absurd a
scenes_more i (q ∷ ps) [] p s a x = absurd a
scenes_more i (q ∷ ps) (t ∷ ss) p s a x = (a.0, scenes_more i ps ss p s a.1 x)

pub program_more : (ms : Registry) (i : Inventory) (ps : List Play) (p : Play) → program_of ms (inventory_view i) (map play_view (ps ++ p ∷ [])) ≡ program_of ms (inventory_view i) (map play_view ps) ++ play_with ms (play_view p) (pattern_hosts (inventory_view i) [] (play_view p).pattern) ∷ []
program_more ms i [] p = refl
program_more ms i (q ∷ ps) p = ap (λ x. play_with ms (play_view q) (pattern_hosts (inventory_view i) [] (play_view q).pattern) ∷ x) (program_more ms i ps p)

pub gather_more : (ms : Registry) (ps : List Play) (ts : List (Option Task)) (p : Play) (t : Option Task) → AllGather ms ps ts → Gathers ms p.gathering t → AllGather ms (ps ++ p ∷ []) (ts ++ t ∷ [])
gather_more ms [] [] p t a x = (x, refl)
gather_more ms [] (u ∷ ts) p t a x = let e : u ∷ ts ≡ [] = a in absurd (cc)
gather_more ms (q ∷ ps) [] p t a x = absurd a
gather_more ms (q ∷ ps) (u ∷ ts) p t a x = (a.0, gather_more ms ps ts p t a.1 x)

pub gathered_there : (ms : Registry) (ps : List Play) (ts : List (Option Task)) (n : ℕ) (p : Play) → AllGather ms ps ts → slice_get ps n ≡ Some p → Gathers ms p.gathering (gathered_at ts n)
gathered_there ms [] ts n p a e = let clash : None ≡ Some p = e in absurd (cc)
gathered_there ms (q ∷ ps) [] n p a e = absurd a
gathered_there ms (q ∷ ps) (t ∷ ts) zero p a e = let same : q ≡ p = (let f : Some q ≡ Some p = e in cc) in subst (λ x. Gathers ms x.gathering t) same a.0
gathered_there ms (q ∷ ps) (t ∷ ts) (suc n) p a e = gathered_there ms ps ts n p a.1 e

-- of sound plays each is sound
pub sound_there : (ms : Registry) (ps : List Play) (n : ℕ) (p : Play) → AreSound ms (all_tasks ps) → slice_get ps n ≡ Some p → AreSound ms (play_tasks p)
sound_there ms [] n p a e = let clash : None ≡ Some p = e in absurd (cc)
sound_there ms (q ∷ ps) zero p a e = let same : q ≡ p = (let f : Some q ≡ Some p = e in cc) in subst (λ x. AreSound ms (play_tasks x)) same (sound-left ms (play_tasks q) (all_tasks ps) a)
sound_there ms (q ∷ ps) (suc n) p a e = sound_there ms ps n p (sound-right ms (play_tasks q) (all_tasks ps) a) e
