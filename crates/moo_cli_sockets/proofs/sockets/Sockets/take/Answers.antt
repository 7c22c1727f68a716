use Rattle.std.proofs.Common.{ℕ, List, ◌++◌, Option, sym, ◌∙◌, ap, subst}
use Rattle.slab.specs.Slab.{get}
use Rattle.moo_server_core.specs.declared.event.Event.{Event}
use Rattle.moo_cli_sockets.specs.Coming.{IsRead, held, held_after, only}
use Rattle.moo_cli_sockets.specs.Reading.{IsLookedAt}
use Rattle.moo_cli_sockets.proofs.Counting.{each_map}
use Rattle.moo_cli_sockets.proofs.Sent.{follow_append}
use Rattle.moo_cli_sockets.proofs.sockets.Sockets.take.Goals as goal

pub returns-clause-comes : goal.returns-clause-comes
returns-clause-comes g c =
    let read = c.in_ok-read_all.ensures.read in
    let opened = c.in_ok-opened.opened in
    let all = read.4 ∙ ap (λ (es : List Event). es ++ read.1) (c.in_ok-put.ensures ∙ ap (λ (es : List Event). es ++ only opened) c.new-events.ensures.items) in
    record {
      opened = opened;
      reads = read.1;
      below = read.0;
      all = all;
      opens = c.in_ok-opened.ensures.opens.0;
      read = each_map (λ k e. IsRead (held c.open_one.new.self.sockets k) k e) (λ k e. IsRead (held_after k (held c.args.self.now.sockets k) (only opened)) k e) read.0 read.1
          (λ k less e is. subst (λ (w : Option (List ℕ)). IsRead w k e) (c.in_ok-opened.ensures.opens.1 k) is) read.2;
      follow = follow_append (only opened) read.1 c.read_all.new.events.items c.args.self.now.sockets c.open_one.new.self.sockets c.read_all.new.self.sockets all c.in_ok-opened.ensures.opens.1 read.3;
    }

pub returns-clause-arrives : goal.returns-clause-arrives
returns-clause-arrives g c =
    let read = c.in_ok-read_all.ensures.read in
    let opened = c.in_ok-opened.opened in record {
      opened = opened;
      reads = read.1;
      below = read.0;
      all = read.4 ∙ ap (λ (es : List Event). es ++ read.1) (c.in_ok-put.ensures ∙ ap (λ (es : List Event). es ++ only opened) c.new-events.ensures.items);
      between = c.open_one.new.self.sockets;
      kept = c.in_ok-opened.ensures.kept;
      looks = λ k below. subst (λ (now : ℕ). IsLookedAt c.args.self.now.tended now (get c.args.self.now.sockets k) (get c.open_one.new.self.sockets k)) (sym c.read_all.ensures.alike.1) (c.in_ok-opened.ensures.looks k below);
      fresh = c.in_ok-opened.ensures.fresh;
      brings = read.5;
      others = read.6;
      filter_is = c.read_all.ensures.alike.0 ∙ c.open_one.ensures.filter;
    }
