use denote.Ref.{Bor}
use Rattle.std.proofs.Common.{ap, map, sym, subst}
use Rattle.pb_semantics.specs.Gives.{Gives}
use Rattle.pb_language.specs.Plays.{program_of}
use Rattle.pb_language.specs.Verdict.{Verdict, accepted}
use Rattle.pb_sig.specs.Modules.{modules_of}
use Rattle.pb_inventory.specs.Inventory.{inventory_view}
use Rattle.pb_inventory.specs.declared.inventory.Inventory.{Inventory}
use Rattle.pb_hosts.specs.Shown.{views_view}
use Rattle.pb_play.specs.Plays.{play_view}
use Rattle.pb_tables.specs.Scenes.{AreScenes}
use Rattle.pb_verify.specs.Judges.{refused_verdict}
use Rattle.pb_verify.specs.Scenes.{AllGather}
use Rattle.pb_verify.specs.declared.verify.Findings.{Findings}
use Rattle.pb_verify.proofs.FewSteps.{few_steps}
use Rattle.pb_verify.proofs.KnownTables.{are_told}
use Rattle.pb_verify.proofs.verify.judge_ways.Goals as goal

pub scenes_of-requires : goal.scenes_of-requires
scenes_of-requires c = record { few = few_steps (modules_of c.args.registry.now) (inventory_view c.args.inventory.now) c.args.plays.now c.requires.ruled }

pub returns-clause-verdict : goal.returns-clause-verdict
returns-clause-verdict c =
    let ms = modules_of c.args.registry.now in
    let i = c.args.inventory.now in
    let ps = c.args.plays.now in
    let program = program_of ms (inventory_view i) (map play_view ps) in
    let gather = subst (AllGather ms ps) (sym c.as_slice.ensures.value) c.in_ok-gathering.ensures in
    let scenes = subst (AreScenes i program) (sym c.as_slice-2.ensures.value) (c.in_ok-scenes.ensures.scenes ms c.requires.sound gather) in
    let verdict = c.in_ok-outcome.ensures.verdict program scenes (λ views ls. c.handlers_are_named.ensures.ruled ms (inventory_view i) (map play_view ps) views ls c.requires.ruled) (c.in_ok-reads.ensures ms) in
    subst (λ (v : Verdict). Gives (λ (f : Findings). accepted f.budget) refused_verdict c.told.result v) verdict c.told.ensures.verdict

pub returns-clause-table : goal.returns-clause-table
returns-clause-table c =
    let ms = modules_of c.args.registry.now in
    let i = c.args.inventory.now in
    let ps = c.args.plays.now in
    let program = program_of ms (inventory_view i) (map play_view ps) in
    let gather = subst (AllGather ms ps) (sym c.as_slice.ensures.value) c.in_ok-gathering.ensures in
    let scenes = subst (AreScenes i program) (sym c.as_slice-2.ensures.value) (c.in_ok-scenes.ensures.scenes ms c.requires.sound gather) in
    are_told ms i c.in_ok-outcome.outcome.views.inventory.now (map play_view ps) (views_view c.in_ok-outcome.outcome.views) c.told.result (ap (λ (j : Bor Inventory). j.now) c.in_ok-outcome.ensures.inventory)
    (c.in_ok-outcome.ensures.views program scenes (c.in_ok-reads.ensures ms)) c.told.ensures.each c.told.ensures.views
