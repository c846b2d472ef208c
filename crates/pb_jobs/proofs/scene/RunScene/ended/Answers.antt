use Rattle.std.proofs.Common.{◌≡◌, ◌&&◌, not, sym, ap, ap₂, ◌∙◌}
use Rattle.pb_history.specs.Happens.{step_in}
use Rattle.pb_language.specs.Give.{last_attempts, message_of}
use Rattle.pb_language.specs.Machine.{notified_by}
use Rattle.pb_language.specs.Notify.{handlers_are}
use Rattle.pb_finish.specs.Endings.{fails}
use Rattle.pb_jobs.proofs.Nodes.{at_work}
use Rattle.pb_jobs.proofs.Outcomes.{text_told}
use Rattle.pb_jobs.proofs.scene.RunScene.ended.Goals as goal

pub returns : goal.returns
returns c = λ reading s scene w xs es comes last ms told out.
    let t = (step_in w).task in
    let o = c.args.outcome in
    let ended = last_attempts es in
    let prepares = c.requires.task.task reading s scene (at_work w) in
    let does = c.notifies.ensures ∙ ap₂ (λ a b. a && not b) out.changed out.failed in
    let handlers : c.in_ok-notified.notified.items ≡ ms = c.in_ok-notified.ensures reading s scene (at_work w) ms (ap (λ b. notified_by w.batch.play t b) does ∙ told) in
    record {
      results = es;
      comes = comes;
      last = last;
      notified = told ∙ ap handlers_are (sym handlers);
      outcome = record {
        is_skipped = out.skipped;
        is_changed = out.changed;
        has_failed = out.failed;
        is_ignored = sym prepares.ignores;
        is_rescued = sym prepares.rescued;
        text = λ q. text_told o.failure (fails t ended) (message_of t.loop ended) out.failure q;
      };
      writes = out.writes;
    }
