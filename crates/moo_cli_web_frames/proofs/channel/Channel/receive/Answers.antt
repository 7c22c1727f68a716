use Rattle.std.proofs.Common.{◌≡◌, ◌++◌, Ok, Err, inl, inr, arith, rules}
use Rattle.websocket.specs.declared.error.Error.TheVariants.{OutOfMemory}
use Rattle.websocket.specs.Stream.{read_all}
use Rattle.moo_cli_web_frames.proofs.Accepting.{append_grows, received_grow}
use Rattle.moo_cli_web_frames.proofs.channel.Channel.receive.Goals as goal

pub invariant_of-self : goal.invariant_of-self
invariant_of-self c =
    let s = c.args.self.now in
    let new = c.receive-received.new in
    let grows = received_grow (read_all s.endpoint.context (s.endpoint.input.items ++ c.args.bytes.now)) (Ok (new.self.context, new.self.input.items))
    s.payload.items new.payload.items s.frames.items new.output.items c.in_default.ensures.ok in record {
      written_in_range = omega (arith, s.written_in_range, grows.1);
    }

pub invariant_of-self-2 : goal.invariant_of-self-2
invariant_of-self-2 c =
    let s = c.args.self.now in
    let new = c.receive-received.new in
    let other : ¬ (c.in-Err.error ≡ OutOfMemory) = λ memory. search rules in
    elim c.in-Err.ensures.err [
      | inl memory ↦ absurd (other memory)
      | inr received ↦
          let grows = received_grow (read_all s.endpoint.context (s.endpoint.input.items ++ c.args.bytes.now)) (Err c.in-Err.error)
          s.payload.items new.payload.items s.frames.items new.output.items received in
          let closed = append_grows new.output.items c.close.ensures.appends.0 c.close.new.output.items c.close.ensures.appends.1 in record {
            written_in_range = omega (arith, s.written_in_range, grows.1, closed);
          }
    ]
