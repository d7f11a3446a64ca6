use Rattle.std.proofs.Common.{rules, ◌≡◌, ◌+◌, ◌-◌, ap, Some}
use Rattle.std.specs.Prelude.{slice_set, slice_index}
use Rattle.std.specs.List.{insert, remove}
use Rattle.session_book.specs.declared.record.BookTunnel.{BookTunnel}
use Rattle.session_book.specs.declared.record.BookCall.{BookCall}
use Rattle.session_book.specs.declared.record.Record.TheVariants.{TunnelUp, TunnelDown, CallUp, CallDown, Mark}
use Rattle.session_book.specs.Books.{Held, Kept, place, put, entry, stepped, marked, tunnels_without, calls_without, calls_not_of}
use Rattle.session_book.proofs.Whole.{whole_after}
use Rattle.session_book.proofs.Counts.{after_up, after_down, after_call, after_call_down, after_mark, may_be_raised, may_be_lowered, over_its_tunnel, fits_here}
use Rattle.session_book.proofs.book.Book.take.Goals as goal

pub invariant_of-self-in-TunnelUp : goal.invariant_of-self-in-TunnelUp
invariant_of-self-in-TunnelUp c =
    let inside = c.self.inside in
    let kept : Kept = record {
      tunnel_ceiling = inside.tunnel_ceiling;
      session_ceiling = inside.session_ceiling;
      draw_ceiling = inside.draw_ceiling;
      tunnels = inside.tunnels.items;
      calls = inside.calls.items;
    } in
    let here : kept ≡ c.args.self.now.kept = ap (λ (h : Held). h.kept) c.self.view_is in
    let after : Kept = record kept { tunnels = c.put_tunnel.new.tunnels.items } in
    let next = TunnelUp c.in-TunnelUp.tunnel in
    let stands : stepped kept next ≡ after = search rules in
    let fit = fits_here c.args.self.now kept c.args.next next here c.in-TunnelUp.is c.requires.fits in
    let each = c.self.invariant.counted.each in
    let tunnel = c.in-TunnelUp.tunnel in
    let counts : c.put_count.new.counts.items ≡ insert inside.counts.items (place (λ (t : BookTunnel). t.local) tunnel.local kept.tunnels) 0 = search rules in
    let tunnels : c.put_tunnel.new.tunnels.items ≡ put (λ t. t.local) tunnel kept.tunnels = search rules in
    record {
      sound = search rules;
      counted = record {
        each = after_up kept inside.counts.items each c.self.invariant.whole tunnel _ _ fit counts tunnels;
        for_counts = search rules;
      };
      whole = whole_after c.args.self.now kept c.args.next next after here c.in-TunnelUp.is c.self.invariant.whole c.fields_fit.ensures c.requires.fits stands;
    }

pub invariant_of-self-in-TunnelDown : goal.invariant_of-self-in-TunnelDown
invariant_of-self-in-TunnelDown c =
    let inside = c.self.inside in
    let kept : Kept = record {
      tunnel_ceiling = inside.tunnel_ceiling;
      session_ceiling = inside.session_ceiling;
      draw_ceiling = inside.draw_ceiling;
      tunnels = inside.tunnels.items;
      calls = inside.calls.items;
    } in
    let here : kept ≡ c.args.self.now.kept = ap (λ (h : Held). h.kept) c.self.view_is in
    let after : Kept = record kept { tunnels = c.remove_tunnel.new.tunnels.items; calls = c.remove_calls_of.new.calls.items } in
    let next = TunnelDown c.in-TunnelDown.local in
    let stands : stepped kept next ≡ after = search rules in
    let fit = fits_here c.args.self.now kept c.args.next next here c.in-TunnelDown.is c.requires.fits in
    let each = c.self.invariant.counted.each in
    let local = c.in-TunnelDown.local in
    let counts : c.remove_count-count.new.counts.items ≡ remove inside.counts.items (place (λ (t : BookTunnel). t.local) local kept.tunnels) = search rules in
    let tunnels : c.remove_tunnel.new.tunnels.items ≡ tunnels_without local kept.tunnels = search rules in
    let calls : c.remove_calls_of.new.calls.items ≡ calls_not_of local kept.calls = search rules in
    record {
      sound = search rules;
      counted = record {
        each = after_down kept inside.counts.items each c.self.invariant.whole local _ _ _ fit counts tunnels calls;
        for_counts = search rules;
      };
      whole = whole_after c.args.self.now kept c.args.next next after here c.in-TunnelDown.is c.self.invariant.whole c.fields_fit.ensures c.requires.fits stands;
    }

pub invariant_of-self-in-CallUp : goal.invariant_of-self-in-CallUp
invariant_of-self-in-CallUp c =
    let inside = c.self.inside in
    let kept : Kept = record {
      tunnel_ceiling = inside.tunnel_ceiling;
      session_ceiling = inside.session_ceiling;
      draw_ceiling = inside.draw_ceiling;
      tunnels = inside.tunnels.items;
      calls = inside.calls.items;
    } in
    let here : kept ≡ c.args.self.now.kept = ap (λ (h : Held). h.kept) c.self.view_is in
    let after : Kept = record kept { calls = c.put_call.new.calls.items } in
    let next = CallUp c.in-CallUp.call in
    let stands : stepped kept next ≡ after = search rules in
    let fit = fits_here c.args.self.now kept c.args.next next here c.in-CallUp.is c.requires.fits in
    let each = c.self.invariant.counted.each in
    let call = c.in-CallUp.call in
    let at = place (λ (t : BookTunnel). t.local) call.tunnel kept.tunnels in
    let counts : c.raise_count.new.counts.items ≡ slice_set inside.counts.items at (slice_index inside.counts.items at + 1) = search rules in
    let calls : c.put_call.new.calls.items ≡ put (λ x. x.local) call kept.calls = search rules in
    record {
      sound = search rules;
      counted = record {
        each = after_call kept inside.counts.items each c.self.invariant.whole call _ _ fit counts calls;
        for_counts = search rules;
      };
      whole = whole_after c.args.self.now kept c.args.next next after here c.in-CallUp.is c.self.invariant.whole c.fields_fit.ensures c.requires.fits stands;
    }

pub invariant_of-self-in-CallDown : goal.invariant_of-self-in-CallDown
invariant_of-self-in-CallDown c =
    let inside = c.self.inside in
    let kept : Kept = record {
      tunnel_ceiling = inside.tunnel_ceiling;
      session_ceiling = inside.session_ceiling;
      draw_ceiling = inside.draw_ceiling;
      tunnels = inside.tunnels.items;
      calls = inside.calls.items;
    } in
    let here : kept ≡ c.args.self.now.kept = ap (λ (h : Held). h.kept) c.self.view_is in
    let after : Kept = record kept { calls = c.remove_call-gone.new.calls.items } in
    let next = CallDown c.in-CallDown.local in
    let stands : stepped kept next ≡ after = search rules in
    let fit = fits_here c.args.self.now kept c.args.next next here c.in-CallDown.is c.requires.fits in
    let each = c.self.invariant.counted.each in
    let local = c.in-CallDown.local in
    let call = c.remove_call-gone.result in
    let gone : entry (λ (x : BookCall). x.local) local kept.calls ≡ Some call = search rules in
    let at = place (λ (t : BookTunnel). t.local) call.tunnel kept.tunnels in
    let counts : c.lower_count.new.counts.items ≡ slice_set inside.counts.items at (slice_index inside.counts.items at - 1) = search rules in
    let calls : c.remove_call-gone.new.calls.items ≡ calls_without local kept.calls = search rules in
    record {
      sound = search rules;
      counted = record {
        each = after_call_down kept inside.counts.items each c.self.invariant.whole local call _ _ gone counts calls;
        for_counts = search rules;
      };
      whole = whole_after c.args.self.now kept c.args.next next after here c.in-CallDown.is c.self.invariant.whole c.fields_fit.ensures c.requires.fits stands;
    }

pub invariant_of-self-in-Mark : goal.invariant_of-self-in-Mark
invariant_of-self-in-Mark c =
    let inside = c.self.inside in
    let kept : Kept = record {
      tunnel_ceiling = inside.tunnel_ceiling;
      session_ceiling = inside.session_ceiling;
      draw_ceiling = inside.draw_ceiling;
      tunnels = inside.tunnels.items;
      calls = inside.calls.items;
    } in
    let here : kept ≡ c.args.self.now.kept = ap (λ (h : Held). h.kept) c.self.view_is in
    let after : Kept = record kept { tunnels = c.mark_tunnel.new.tunnels.items } in
    let next = Mark c.in-Mark.tunnel c.in-Mark.mark in
    let stands : stepped kept next ≡ after = search rules in
    let fit = fits_here c.args.self.now kept c.args.next next here c.in-Mark.is c.requires.fits in
    let each = c.self.invariant.counted.each in
    let tunnels : c.mark_tunnel.new.tunnels.items ≡ marked c.in-Mark.tunnel c.in-Mark.mark kept.tunnels = search rules in
    record {
      sound = search rules;
      counted = record {
        each = after_mark kept inside.counts.items each c.self.invariant.whole c.in-Mark.tunnel c.in-Mark.mark _ tunnels;
        for_counts = search rules;
      };
      whole = whole_after c.args.self.now kept c.args.next next after here c.in-Mark.is c.self.invariant.whole c.fields_fit.ensures c.requires.fits stands;
    }

pub raise_count-requires-clause-few : goal.raise_count-requires-clause-few
raise_count-requires-clause-few c =
    let inside = c.self.inside in
    let kept : Kept = record {
      tunnel_ceiling = inside.tunnel_ceiling;
      session_ceiling = inside.session_ceiling;
      draw_ceiling = inside.draw_ceiling;
      tunnels = inside.tunnels.items;
      calls = inside.calls.items;
    } in
    let here : kept ≡ c.args.self.now.kept = ap (λ (h : Held). h.kept) c.self.view_is in
    let call = c.in-CallUp.call in
    let fit = fits_here c.args.self.now kept c.args.next (CallUp call) here c.in-CallUp.is c.requires.fits in
    let few = may_be_raised kept inside.counts.items c.self.invariant.counted.each c.self.invariant.whole call fit in
    search rules

pub lower_count-requires-clause-there : goal.lower_count-requires-clause-there
lower_count-requires-clause-there c =
    let inside = c.self.inside in
    let kept : Kept = record {
      tunnel_ceiling = inside.tunnel_ceiling;
      session_ceiling = inside.session_ceiling;
      draw_ceiling = inside.draw_ceiling;
      tunnels = inside.tunnels.items;
      calls = inside.calls.items;
    } in
    let here : kept ≡ c.args.self.now.kept = ap (λ (h : Held). h.kept) c.self.view_is in
    let call = c.remove_call-gone.result in
    let gone : entry (λ (x : BookCall). x.local) c.in-CallDown.local kept.calls ≡ Some call = search rules in
    let there = over_its_tunnel kept inside.counts.items c.self.invariant.counted.each c.self.invariant.whole c.in-CallDown.local call gone in
    search rules

pub lower_count-requires-clause-some : goal.lower_count-requires-clause-some
lower_count-requires-clause-some c =
    let inside = c.self.inside in
    let kept : Kept = record {
      tunnel_ceiling = inside.tunnel_ceiling;
      session_ceiling = inside.session_ceiling;
      draw_ceiling = inside.draw_ceiling;
      tunnels = inside.tunnels.items;
      calls = inside.calls.items;
    } in
    let here : kept ≡ c.args.self.now.kept = ap (λ (h : Held). h.kept) c.self.view_is in
    let call = c.remove_call-gone.result in
    let gone : entry (λ (x : BookCall). x.local) c.in-CallDown.local kept.calls ≡ Some call = search rules in
    let some = may_be_lowered kept inside.counts.items c.self.invariant.counted.each c.self.invariant.whole c.in-CallDown.local call gone in
    search rules
