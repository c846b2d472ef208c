-- What goes along an edge goes up with what is known before it.
use Rattle.std.proofs.Common.{refl}
use Rattle.pb_semantics.specs.Kind.{recs}
use Rattle.pb_semantics.proofs.Bools.{untrue}
use Rattle.pb_semantics.proofs.Order.{own_below}
use Rattle.pb_language.specs.Judgement.{Exit, dead, live}
use Rattle.pb_language.specs.Links.{Way, goes, fails, passes, led}
use Rattle.pb_language.specs.Ordered.{ExitLe, SettingLe}
use Rattle.pb_language.specs.Scope.{view_of}
use Rattle.pb_language.specs.Setting.{Setting}
use Rattle.pb_language.specs.Task.{Task}
use Rattle.pb_language.specs.Wells.{WellExit, WellViews}
use Rattle.pb_language.proofs.After.{after_claim}
use Rattle.pb_language.proofs.ExitsUp.{exits_up}
use Rattle.pb_language.proofs.Rounds.{going_well, failing_well}
use Rattle.pb_language.proofs.Spots.{slots_le}

same_setting : (st : Setting) → WellViews st.views → SettingLe st st
same_setting st a = record { same = refl; views = λ g. slots_le (view_of g st.views) (view_of g st.views) (own_below (recs (view_of g st.views)) (a g)); hosts = λ g. refl; laters = λ p g x. refl }

pub led_up : (st : Setting) (t : Task) (w : Way) (e f : Exit) → WellViews st.views → WellExit e → WellExit f → ExitLe e f → ExitLe (led st t w e) (led st t w f)
led_up st t goes dead f a w v x = tt
led_up st t goes (live ss) dead a w v x = untrue x
led_up st t goes (live ss) (live ts) a p q x = (exits_up st st t ss ts a a p q (same_setting st a) x).0
led_up st t fails dead f a w v x = tt
led_up st t fails (live ss) dead a w v x = untrue x
led_up st t fails (live ss) (live ts) a p q x = (exits_up st st t ss ts a a p q (same_setting st a) x).1
led_up st t passes e f a w v x = x

pub led_well : (st : Setting) (t : Task) (w : Way) (e : Exit) → WellViews st.views → WellExit e → WellExit (led st t w e)
led_well st t goes e a w = going_well after_claim st a t e w
led_well st t fails e a w = failing_well after_claim st a t e w
led_well st t passes e a w = w
