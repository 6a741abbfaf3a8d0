use Rattle.std.proofs.Common.{◌+◌, ◌-◌, take, drop, length, refl, sym, rules, tests}
use Rattle.std.proofs.lemmas.Iterator.{YieldsList-from_slice}
use Rattle.std.proofs.lemmas.Iterator.Search.{position_from_yields_List}
use Rattle.std.proofs.lemmas.List.{take_rest}
use Rattle.pci_picture.specs.Lines.{is_dash_byte}
use Rattle.pci_picture.proofs.Ranges.{a_dash_at, no_range, no_first, no_last, are_ends, falls, rises}
use Rattle.pci_picture.proofs.reading.extent_of.Goals as goal

pub returns-in_err-dash-clause-some : goal.returns-in_err-dash-clause-some
returns-in_err-dash-clause-some c =
    rw c.from_residual.ensures (sym (no_range c.args.text.now c.position.result
    (position_from_yields_List is_dash_byte c.position.new.self _ c.position.result c.position.ensures.ran
    (YieldsList-from_slice c.args.text.now c.iter.ensures.rest) (λ x b q k. search (rules, tests))) c.in_err-dash.was))

pub returns-in_err-first-clause-some : goal.returns-in_err-first-clause-some
returns-in_err-first-clause-some c =
    rw c.from_residual-in_err-first.ensures (sym (no_first c.args.text.now (take c.in_ok-dash.dash c.args.text.now) c.position.result c.hex_number.result c.in_ok-dash.dash
    (position_from_yields_List is_dash_byte c.position.new.self _ c.position.result c.position.ensures.ran
    (YieldsList-from_slice c.args.text.now c.iter.ensures.rest) (λ x b q k. search (rules, tests))) c.in_ok-dash.was
    refl c.hex_number.ensures c.in_err-first.was))

pub returns-in_err-last-clause-some : goal.returns-in_err-last-clause-some
returns-in_err-last-clause-some c =
    rw c.from_residual-in_err-last.ensures (sym (no_last c.args.text.now (take (length c.args.text.now - (c.in_ok-dash.dash + 1)) (drop (c.in_ok-dash.dash + 1) c.args.text.now)) c.position.result c.hex_number-2.result c.in_ok-dash.dash
    (position_from_yields_List is_dash_byte c.position.new.self _ c.position.result c.position.ensures.ran
    (YieldsList-from_slice c.args.text.now c.iter.ensures.rest) (λ x b q k. search (rules, tests))) c.in_ok-dash.was
    (take_rest c.args.text.now (c.in_ok-dash.dash + 1)) c.hex_number-2.ensures c.in_err-last.was))

pub returns-then-last-first-clause-some : goal.returns-then-last-first-clause-some
returns-then-last-first-clause-some c =
    sym (falls c.args.text.now c.in_ok-first.first c.in_ok-last.last
    (are_ends c.args.text.now (take c.in_ok-dash.dash c.args.text.now) (take (length c.args.text.now - (c.in_ok-dash.dash + 1)) (drop (c.in_ok-dash.dash + 1) c.args.text.now)) c.position.result c.hex_number.result c.hex_number-2.result
    c.in_ok-dash.dash c.in_ok-first.first c.in_ok-last.last (position_from_yields_List is_dash_byte c.position.new.self _ c.position.result c.position.ensures.ran
    (YieldsList-from_slice c.args.text.now c.iter.ensures.rest) (λ x b q k. search (rules, tests))) c.in_ok-dash.was
    refl (take_rest c.args.text.now (c.in_ok-dash.dash + 1))
    c.hex_number.ensures c.in_ok-first.was c.hex_number-2.ensures c.in_ok-last.was) c.if-last-first.true)

pub returns : goal.returns
returns c =
    let ends = are_ends c.args.text.now (take c.in_ok-dash.dash c.args.text.now) (take (length c.args.text.now - (c.in_ok-dash.dash + 1)) (drop (c.in_ok-dash.dash + 1) c.args.text.now)) c.position.result c.hex_number.result c.hex_number-2.result
    c.in_ok-dash.dash c.in_ok-first.first c.in_ok-last.last (position_from_yields_List is_dash_byte c.position.new.self _ c.position.result c.position.ensures.ran
    (YieldsList-from_slice c.args.text.now c.iter.ensures.rest) (λ x b q k. search (rules, tests))) c.in_ok-dash.was
    refl (take_rest c.args.text.now (c.in_ok-dash.dash + 1))
    c.hex_number.ensures c.in_ok-first.was c.hex_number-2.ensures c.in_ok-last.was in
    record {
      some = sym (rises c.args.text.now c.in_ok-first.first c.in_ok-last.last ends c.if-last-first.false);
      ends = record { first_is = sym ends.low; last_is = sym ends.high; rises = c.if-last-first.false };
      digits =
          (a_dash_at c.args.text.now c.position.result c.in_ok-dash.dash
          (position_from_yields_List is_dash_byte c.position.new.self _ c.position.result c.position.ensures.ran
          (YieldsList-from_slice c.args.text.now c.iter.ensures.rest) (λ x b q k. search (rules, tests))) c.in_ok-dash.was).1;
    }
