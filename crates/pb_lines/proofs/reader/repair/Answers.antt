use Rattle.std.proofs.Common.{◌≡◌, ◌≤◌, ℕ, List, [], ◌∷◌, length, sym, ◌∙◌, ap, subst, arith}
use Rattle.pb_lines.specs.Device.{Holds, Only, Torn, Cut}
use Rattle.pb_lines.specs.Lines.{recovered}
use Rattle.pb_lines.proofs.Moments.{started, goes_on}
use Rattle.pb_lines.proofs.Repair.{cut_keeps, cut_done, records_within, torn_end, written_end}
use Rattle.pb_lines.proofs.reader.repair.Goals as goal

-- each step leaves the lines as they were
pub returns-in_err-cut-clause-any_moment : goal.returns-in_err-cut-clause-any_moment
returns-in_err-cut-clause-any_moment g c h =
    let P : List ℕ → Type 0 = λ f. recovered f ≡ recovered (g.D.Device.seen c.args.device.now) in
    let here : (f : List ℕ) → g.D.Device.may_leave c.args.device.now f → P f = λ f now. ap recovered (c.requires.durable f now) in
    let at_start = started g.D.Device.moment g.D.Device.left_since c.args.device.now P (λ f left. here f (g.met.D.Device.only_now c.args.device.now f left)) in
    let gate = c.requires.end h in
    let within : c.args.end ≤ length (g.D.Device.seen c.args.device.now) = omega (arith, gate, records_within (g.D.Device.seen c.args.device.now)) in
    let after_cut : (f : List ℕ) → g.D.Device.may_leave c.cut.new.self f → P f = λ f now.
    let from = c.cut.ensures.crash within f now in
    let was = c.requires.durable from.0 from.1 in
    cut_keeps (g.D.Device.seen c.args.device.now) c.args.end gate f (subst (λ d. Cut c.args.end d f) was from.2) in
    let cut = goes_on g.D.Device.moment g.D.Device.left_since c.args.device.now c.args.device.now c.cut.new.self P _ at_start c.cut.ensures.time after_cut in
    cut

pub returns-in_err-sync-clause-any_moment : goal.returns-in_err-sync-clause-any_moment
returns-in_err-sync-clause-any_moment g c h =
    let P : List ℕ → Type 0 = λ f. recovered f ≡ recovered (g.D.Device.seen c.args.device.now) in
    let here : (f : List ℕ) → g.D.Device.may_leave c.args.device.now f → P f = λ f now. ap recovered (c.requires.durable f now) in
    let at_start = started g.D.Device.moment g.D.Device.left_since c.args.device.now P (λ f left. here f (g.met.D.Device.only_now c.args.device.now f left)) in
    let gate = c.requires.end h in
    let within : c.args.end ≤ length (g.D.Device.seen c.args.device.now) = omega (arith, gate, records_within (g.D.Device.seen c.args.device.now)) in
    let after_cut : (f : List ℕ) → g.D.Device.may_leave c.cut.new.self f → P f = λ f now.
    let from = c.cut.ensures.crash within f now in
    let was = c.requires.durable from.0 from.1 in
    cut_keeps (g.D.Device.seen c.args.device.now) c.args.end gate f (subst (λ d. Cut c.args.end d f) was from.2) in
    let cut = goes_on g.D.Device.moment g.D.Device.left_since c.args.device.now c.args.device.now c.cut.new.self P _ at_start c.cut.ensures.time after_cut in
    let kept = goes_on g.D.Device.moment g.D.Device.left_since c.args.device.now c.cut.new.self c.sync.new.self P _ cut c.sync.ensures.time (λ f now. after_cut f (c.sync.ensures.crash f now)) in
    kept

pub returns-in_err-write_at-clause-any_moment : goal.returns-in_err-write_at-clause-any_moment
returns-in_err-write_at-clause-any_moment g c h =
    let P : List ℕ → Type 0 = λ f. recovered f ≡ recovered (g.D.Device.seen c.args.device.now) in
    let here : (f : List ℕ) → g.D.Device.may_leave c.args.device.now f → P f = λ f now. ap recovered (c.requires.durable f now) in
    let at_start = started g.D.Device.moment g.D.Device.left_since c.args.device.now P (λ f left. here f (g.met.D.Device.only_now c.args.device.now f left)) in
    let gate = c.requires.end h in
    let within : c.args.end ≤ length (g.D.Device.seen c.args.device.now) = omega (arith, gate, records_within (g.D.Device.seen c.args.device.now)) in
    let after_cut : (f : List ℕ) → g.D.Device.may_leave c.cut.new.self f → P f = λ f now.
    let from = c.cut.ensures.crash within f now in
    let was = c.requires.durable from.0 from.1 in
    cut_keeps (g.D.Device.seen c.args.device.now) c.args.end gate f (subst (λ d. Cut c.args.end d f) was from.2) in
    let cut = goes_on g.D.Device.moment g.D.Device.left_since c.args.device.now c.args.device.now c.cut.new.self P _ at_start c.cut.ensures.time after_cut in
    let kept = goes_on g.D.Device.moment g.D.Device.left_since c.args.device.now c.cut.new.self c.sync.new.self P _ cut c.sync.ensures.time (λ f now. after_cut f (c.sync.ensures.crash f now)) in
    let is_cut = c.in_ok-cut.ensures.cut within ∙ cut_done (g.D.Device.seen c.args.device.now) c.args.end gate in
    let at_end : c.args.end ≤ length (g.D.Device.seen c.sync.new.self) = omega (arith, gate, ap length (c.sync.ensures.seen ∙ is_cut)) in
    let after_write : (f : List ℕ) → g.D.Device.may_leave c.write_at.new.self f → P f = λ f now.
    let from = c.write_at.ensures.crash at_end f now in
    let was = c.in_ok-sync.ensures.durable from.0 from.1 ∙ is_cut in
    torn_end (g.D.Device.seen c.args.device.now) c.args.end gate f (subst (λ d. Torn c.args.end 1 d f) was from.2) in
    let shut = goes_on g.D.Device.moment g.D.Device.left_since c.args.device.now c.sync.new.self c.write_at.new.self P _ kept c.write_at.ensures.time after_write in
    shut

pub returns-in_err-sync-2-clause-any_moment : goal.returns-in_err-sync-2-clause-any_moment
returns-in_err-sync-2-clause-any_moment g c h =
    let P : List ℕ → Type 0 = λ f. recovered f ≡ recovered (g.D.Device.seen c.args.device.now) in
    let here : (f : List ℕ) → g.D.Device.may_leave c.args.device.now f → P f = λ f now. ap recovered (c.requires.durable f now) in
    let at_start = started g.D.Device.moment g.D.Device.left_since c.args.device.now P (λ f left. here f (g.met.D.Device.only_now c.args.device.now f left)) in
    let gate = c.requires.end h in
    let within : c.args.end ≤ length (g.D.Device.seen c.args.device.now) = omega (arith, gate, records_within (g.D.Device.seen c.args.device.now)) in
    let after_cut : (f : List ℕ) → g.D.Device.may_leave c.cut.new.self f → P f = λ f now.
    let from = c.cut.ensures.crash within f now in
    let was = c.requires.durable from.0 from.1 in
    cut_keeps (g.D.Device.seen c.args.device.now) c.args.end gate f (subst (λ d. Cut c.args.end d f) was from.2) in
    let cut = goes_on g.D.Device.moment g.D.Device.left_since c.args.device.now c.args.device.now c.cut.new.self P _ at_start c.cut.ensures.time after_cut in
    let kept = goes_on g.D.Device.moment g.D.Device.left_since c.args.device.now c.cut.new.self c.sync.new.self P _ cut c.sync.ensures.time (λ f now. after_cut f (c.sync.ensures.crash f now)) in
    let is_cut = c.in_ok-cut.ensures.cut within ∙ cut_done (g.D.Device.seen c.args.device.now) c.args.end gate in
    let at_end : c.args.end ≤ length (g.D.Device.seen c.sync.new.self) = omega (arith, gate, ap length (c.sync.ensures.seen ∙ is_cut)) in
    let after_write : (f : List ℕ) → g.D.Device.may_leave c.write_at.new.self f → P f = λ f now.
    let from = c.write_at.ensures.crash at_end f now in
    let was = c.in_ok-sync.ensures.durable from.0 from.1 ∙ is_cut in
    torn_end (g.D.Device.seen c.args.device.now) c.args.end gate f (subst (λ d. Torn c.args.end 1 d f) was from.2) in
    let shut = goes_on g.D.Device.moment g.D.Device.left_since c.args.device.now c.sync.new.self c.write_at.new.self P _ kept c.write_at.ensures.time after_write in
    let ended = goes_on g.D.Device.moment g.D.Device.left_since c.args.device.now c.write_at.new.self c.sync-2.new.self P _ shut c.sync-2.ensures.time (λ f now. after_write f (c.sync-2.ensures.crash f now)) in
    ended

pub returns-clause-any_moment : goal.returns-clause-any_moment
returns-clause-any_moment g c h =
    let P : List ℕ → Type 0 = λ f. recovered f ≡ recovered (g.D.Device.seen c.args.device.now) in
    let here : (f : List ℕ) → g.D.Device.may_leave c.args.device.now f → P f = λ f now. ap recovered (c.requires.durable f now) in
    let at_start = started g.D.Device.moment g.D.Device.left_since c.args.device.now P (λ f left. here f (g.met.D.Device.only_now c.args.device.now f left)) in
    let gate = c.requires.end h in
    let within : c.args.end ≤ length (g.D.Device.seen c.args.device.now) = omega (arith, gate, records_within (g.D.Device.seen c.args.device.now)) in
    let after_cut : (f : List ℕ) → g.D.Device.may_leave c.cut.new.self f → P f = λ f now.
    let from = c.cut.ensures.crash within f now in
    let was = c.requires.durable from.0 from.1 in
    cut_keeps (g.D.Device.seen c.args.device.now) c.args.end gate f (subst (λ d. Cut c.args.end d f) was from.2) in
    let cut = goes_on g.D.Device.moment g.D.Device.left_since c.args.device.now c.args.device.now c.cut.new.self P _ at_start c.cut.ensures.time after_cut in
    let kept = goes_on g.D.Device.moment g.D.Device.left_since c.args.device.now c.cut.new.self c.sync.new.self P _ cut c.sync.ensures.time (λ f now. after_cut f (c.sync.ensures.crash f now)) in
    let is_cut = c.in_ok-cut.ensures.cut within ∙ cut_done (g.D.Device.seen c.args.device.now) c.args.end gate in
    let at_end : c.args.end ≤ length (g.D.Device.seen c.sync.new.self) = omega (arith, gate, ap length (c.sync.ensures.seen ∙ is_cut)) in
    let after_write : (f : List ℕ) → g.D.Device.may_leave c.write_at.new.self f → P f = λ f now.
    let from = c.write_at.ensures.crash at_end f now in
    let was = c.in_ok-sync.ensures.durable from.0 from.1 ∙ is_cut in
    torn_end (g.D.Device.seen c.args.device.now) c.args.end gate f (subst (λ d. Torn c.args.end 1 d f) was from.2) in
    let shut = goes_on g.D.Device.moment g.D.Device.left_since c.args.device.now c.sync.new.self c.write_at.new.self P _ kept c.write_at.ensures.time after_write in
    let ended = goes_on g.D.Device.moment g.D.Device.left_since c.args.device.now c.write_at.new.self c.sync-2.new.self P _ shut c.sync-2.ensures.time (λ f now. after_write f (c.sync-2.ensures.crash f now)) in
    ended

-- and then the file is closed, on the disk
pub returns-clause-settled : goal.returns-clause-settled
returns-clause-settled g c = (
  subst (λ f. Only f (g.D.Device.may_leave c.sync-2.new.self)) (sym c.sync-2.ensures.seen) c.in_ok-sync-2.ensures.durable,
  λ h.
      let gate = c.requires.end (c.cut.ensures.honest (c.sync.ensures.honest (c.write_at.ensures.honest (c.sync-2.ensures.honest h)))) in
      let within : c.args.end ≤ length (g.D.Device.seen c.args.device.now) = omega (arith, gate, records_within (g.D.Device.seen c.args.device.now)) in
      let is_cut = c.in_ok-cut.ensures.cut within ∙ cut_done (g.D.Device.seen c.args.device.now) c.args.end gate in
      let at_end : c.args.end ≤ length (g.D.Device.seen c.sync.new.self) = omega (arith, gate, ap length (c.sync.ensures.seen ∙ is_cut)) in
      let holds = subst (λ f. Holds f c.args.end (35 ∷ []) (g.D.Device.seen c.write_at.new.self)) (c.sync.ensures.seen ∙ is_cut) (c.in_ok-write_at.ensures.written at_end) in
      c.sync-2.ensures.seen ∙ written_end (g.D.Device.seen c.args.device.now) c.args.end gate _ holds,
)
