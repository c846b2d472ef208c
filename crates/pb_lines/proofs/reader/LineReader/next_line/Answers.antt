use Rattle.std.proofs.Common.{rules, ◌≡◌, ◌≢◌, ◌≤◌, ◌+◌, ◌++◌, [], ◌∷◌, false, ℕ, List, length, drop, sym, ◌∙◌, ap, subst, arith, length-append, length-drop}
use Rattle.std.proofs.lemmas.List.Elements.{recursion_from_All}
use Rattle.pb_lines.specs.Lines.{IsLine, recovered}
use Rattle.pb_lines.specs.Reader.{IsPlaced}
use Rattle.pb_lines.proofs.Reading.{at_next, line_of_block, no_bytes, none_behind, same_left}
use Rattle.pb_lines.proofs.reader.LineReader.next_line.Goals.{in-Some+else-gate-ne-OPEN+in_default-up_to_newline+else-text-gt-MAX_LINE, in_default}
use Rattle.pb_lines.proofs.reader.LineReader.next_line.Goals as goal

-- the reader stands behind the line
pub returns-in-Some-up_to_newline-clause-reading : goal.returns-in-Some-up_to_newline-clause-reading
returns-in-Some-up_to_newline-clause-reading g c =
    let r = c.loop-gate.self in
    let reading = c.loop-gate.invariant.reading in
    let line = c.in-Some-up_to_newline.line.now in
    let text = c.in-Some.text.now in
    let is_open : c.in-Some.gate.now ≡ 32 = search rules in
    let opens : drop r.given r.block.items ≡ 32 ∷ text = sym c.unread.ensures ∙ c.in-Some.ensures.cases.0 ∙ ap (λ (b : ℕ). b ∷ text) is_open in
    let ends : text ≡ line ++ 10 ∷ drop (length line + 1) text = c.in-Some-up_to_newline.ensures.1 in
    let size : c.len.result ≡ length line = search rules in
    record {
      few = omega (arith, size, reading.few, ap length opens, ap length ends, length-drop r.given r.block.items, length-append line (10 ∷ drop (length line + 1) text));
      short = reading.short;
      durable = reading.durable;
      placed = λ h.
          subst (λ (n : ℕ). IsPlaced (g.D.Device.seen r.device) r.block.items r.place (r.given + (n + 2))) (sym size)
          (at_next (g.D.Device.seen r.device) r.block.items line text r.place r.given (reading.placed h) opens ends (recursion_from_All (λ (byte : ℕ). byte ≢ 10) line c.in-Some-up_to_newline.ensures.0));
    }

-- the line is the first of those that were left
pub returns-in-Some-up_to_newline-clause-line : goal.returns-in-Some-up_to_newline-clause-line
returns-in-Some-up_to_newline-clause-line g c h =
    let r = c.loop-gate.self in
    let file = g.D.Device.seen r.device in
    let line = c.in-Some-up_to_newline.line.now in
    let text = c.in-Some.text.now in
    let is_open : c.in-Some.gate.now ≡ 32 = search rules in
    let opens : drop r.given r.block.items ≡ 32 ∷ text = sym c.unread.ensures ∙ c.in-Some.ensures.cases.0 ∙ ap (λ (b : ℕ). b ∷ text) is_open in
    let ends : text ≡ line ++ 10 ∷ drop (length line + 1) text = c.in-Some-up_to_newline.ensures.1 in
    let size : c.len.result ≡ length line = search rules in
    let copied : c.in_ok-line.line.items ≡ line = search rules in
    let short : length line ≤ 16777216 = search rules in
    let at = c.loop-gate.invariant.reading.placed h in
    let is_line = recursion_from_All (λ (byte : ℕ). byte ≢ 10) line c.in-Some-up_to_newline.ensures.0 in (
      sym (same_left file (g.D.Device.seen c.args.self.now.device) (r.place + r.given) (c.args.self.now.place + c.args.self.now.given) c.loop-gate.invariant.reads.same c.loop-gate.invariant.place)
          ∙ line_of_block file r.block.items line text r.place r.given at opens ends is_line
          ∙ ap (λ (n : ℕ). line ∷ recovered (drop (r.place + (r.given + (n + 2))) file)) (sym size)
          ∙ ap (λ (l : List ℕ). l ∷ recovered (drop (r.place + (r.given + (c.len.result + 2))) file)) (sym copied),
      omega (arith, ap length copied, short),
    )

-- at the end of the file no whole record is left
pub returns-then-not-branch-clause-line : goal.returns-then-not-branch-clause-line
returns-then-not-branch-clause-line g c h =
    let r = c.loop-gate.self in
    let file = g.D.Device.seen r.device in
    let is_over : c.in_ok-read_more.field-0 ≡ false = search rules in
    let left : drop (r.place + r.given) file ≡ drop r.given r.block.items = c.in_ok-read_more.ensures.more.1 is_over h in
    let none : recovered (drop r.given r.block.items) ≡ [] =
    elim c.match-split_first.branch [
      | in-Some+else-gate-ne-OPEN+in_default-up_to_newline+else-text-gt-MAX_LINE w ↦
          let text = w.in-Some.text.now in
          let is_open : w.in-Some.gate.now ≡ 32 = search rules in
          let is_line : IsLine text = search rules in
          ap recovered (sym c.unread.ensures ∙ w.in-Some.ensures.cases.0 ∙ ap (λ (b : ℕ). b ∷ text) is_open) ∙ none_behind text (recursion_from_All (λ (byte : ℕ). byte ≢ 10) text is_line)
      | in_default w ↦
          let empty : length c.unread.result.now ≡ 0 = search rules in
          ap recovered (sym c.unread.ensures ∙ no_bytes c.unread.result.now empty)
    ] in
    let all : recovered (drop (r.place + r.given) file) ≡ [] = ap recovered left ∙ none in (
      sym (same_left file (g.D.Device.seen c.args.self.now.device) (r.place + r.given) (c.args.self.now.place + c.args.self.now.given) c.loop-gate.invariant.reads.same c.loop-gate.invariant.place) ∙ all,
      same_left (g.D.Device.seen c.read_more.new.self.device) file (c.read_more.new.self.place + c.read_more.new.self.given) (r.place + r.given) c.read_more.ensures.reads.same c.read_more.ensures.place ∙ all,
    )
