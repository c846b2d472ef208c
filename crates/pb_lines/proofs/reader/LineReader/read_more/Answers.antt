use Rattle.std.proofs.Common.{◌≡◌, ◌<◌, ◌+◌, ◌^◌, ◌++◌, ℕ, List, length, drop, sym, ◌∙◌, ap, subst, arith, rules}
use Rattle.pb_lines.specs.Reader.{IsPlaced}
use Rattle.pb_lines.proofs.Reading.{at_more}
use Rattle.pb_lines.proofs.reader.LineReader.read_more.Goals as goal

pub returns-clause-reading : goal.returns-clause-reading
returns-clause-reading g c =
    let r = c.args.self.now in
    let under : r.place + length r.block.items < 2 ^ 60 = search rules in
    let copied : c.in_ok-block.block.items ≡ drop r.given r.block.items = search rules in
    let grown : c.extend_from_slice.new.self.items ≡ drop r.given r.block.items ++ c.in_ok-bytes.bytes.items =
    c.in_ok-extend_from_slice.ensures.items ∙ ap (λ (l : List ℕ). l ++ c.deref.result.now) copied ∙ ap (λ (l : List ℕ). drop r.given r.block.items ++ l) c.deref.ensures.value in
    record {
      few = omega arith;
      short = omega (arith, under, c.requires.few);
      durable = λ f now. c.requires.durable f (c.read_at.ensures.crash f now) ∙ sym c.read_at.ensures.seen;
      placed = λ h.
          subst (λ (f : List ℕ). IsPlaced f c.extend_from_slice.new.self.items (r.place + r.given) 0) (sym c.read_at.ensures.seen)
          (at_more (g.D.Device.seen r.device) r.block.items c.in_ok-bytes.bytes.items r.place r.given _ _ (c.requires.placed (c.read_at.ensures.honest h)) c.requires.few (search rules) (c.in_ok-bytes.ensures.bytes h) c.extend_from_slice.new.self.items grown);
    }
