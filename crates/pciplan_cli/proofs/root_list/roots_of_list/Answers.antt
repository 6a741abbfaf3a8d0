use Rattle.std.proofs.Common.{◌≡◌, ◌-◌, ◌*◌, ◌+◌, ◌<◌, ◌∷◌, length, get_or, take, sym, ◌∙◌, ap, subst, arith, rules, [], None}
use Rattle.std.specs.List.{All, flat_map}
use Rattle.std.proofs.lemmas.List.{take_all}
use Rattle.std.proofs.lemmas.List.Elements.{All-get_or, All-push}
use Rattle.pciplan_cli.specs.RootWords.{comma_bus_text}
use Rattle.pciplan_cli.proofs.RootWords.{count_buses, comma_there, digits_there, bus_more, roots_read, roots_only}
use Rattle.pciplan_cli.proofs.root_list.roots_of_list.Goals as goal
use Rattle.pciplan_cli.proofs.root_list.roots_of_list.Goals.{then-bytes-ne2-via-then-bytes-ne2, then-bytes-ne2-via-else-bytes-ne2+then-count-gt-BUSES, else-i-gt0-via-then-i-gt0+else-bytes-i-ne44, else-i-gt0-via-else-i-gt0}

pub returns-then-bytes-ne2-clause-word : goal.returns-then-bytes-ne2-clause-word
returns-then-bytes-ne2-clause-word c = λ buses is.
    let counted = count_buses c.args.list.now buses is in
    let same = ap length c.as_bytes-bytes.ensures.value in
    elim c.then-bytes-ne2.branch [
      | then-bytes-ne2-via-then-bytes-ne2 w ↦ w.if-bytes-ne2.true (omega (arith, counted.length, counted.some, same))
      | then-bytes-ne2-via-else-bytes-ne2+then-count-gt-BUSES w ↦ omega (arith, counted.length, counted.some, counted.few, same, w.if-count-gt-BUSES.true)
    ]

pub returns-then-bytes-i-ne44-clause-word : goal.returns-then-bytes-i-ne44-clause-word
returns-then-bytes-i-ne44-clause-word c = λ buses is.
    let counted = count_buses c.args.list.now buses is in
    let same = c.as_bytes-bytes.ensures.value in
    c.if-bytes-i-ne44.true (ap (λ l. get_or l (3 * c.loop-i.i - 1) 0) same
    ∙ comma_there c.args.list.now buses is c.loop-i.i c.if-i-gt0.true (omega (arith, counted.length, ap length same, c.loop-i-test.true)))

pub returns-in_err-bus_of-clause-word : goal.returns-in_err-bus_of-clause-word
returns-in_err-bus_of-clause-word c = rw c.from_residual.ensures (λ buses is.
    (let counted = count_buses c.args.list.now buses is in
    let same = c.as_bytes-bytes.ensures.value in
    let inside : c.loop-i.i < length buses = omega (arith, counted.length, ap length same, c.loop-i-test.true) in
    c.in_err-bus_of.ensures (get_or buses c.loop-i.i 0) (All-get_or (λ bus. bus < 256) buses c.loop-i.i 0 inside is.below)
    (digits_there c.args.list.now buses is c.loop-i.i inside ∙ ap (λ l. get_or l (3 * c.loop-i.i) 0 ∷ get_or l (3 * c.loop-i.i + 1) 0 ∷ []) (sym same))))

pub loop-i-preserved : goal.loop-i-preserved
loop-i-preserved c =
    let comma : 0 < c.loop-i.i → get_or c.as_bytes-bytes.result.now (3 * c.loop-i.i - 1) 0 ≡ 44 = λ later. elim c.else-i-gt0.branch [
      | else-i-gt0-via-then-i-gt0+else-bytes-i-ne44 w ↦ w.if-bytes-i-ne44.false
      | else-i-gt0-via-else-i-gt0 w ↦ absurd (omega (arith, later, w.if-i-gt0.false))
    ] in
    let bus = c.in_ok-bus_of.ensures in
    record {
      count = search rules;
      below = subst (λ l. All (λ b. b < 256) l) (sym c.push.ensures.items) (All-push (λ b. b < 256) c.loop-i.buses.items _ c.loop-i.invariant.below bus.0);
      text = subst (λ l. flat_map comma_bus_text l ≡ take (3 * (c.loop-i.i + 1)) (44 ∷ c.as_bytes-bytes.result.now)) (sym c.push.ensures.items)
          (bus_more c.as_bytes-bytes.result.now c.loop-i.buses.items c.loop-i.i _ (omega (arith, c.if-bytes-ne2.false, c.loop-i-test.true)) c.loop-i.invariant.text comma bus.1);
    }

pub returns-clause-word : goal.returns-clause-word
returns-clause-word c =
    let whole : take (3 * c.loop-i.i) (44 ∷ c.as_bytes-bytes.result.now) ≡ 44 ∷ c.as_bytes-bytes.result.now
    = take_all (3 * c.loop-i.i) (44 ∷ c.as_bytes-bytes.result.now) (omega (arith, c.if-bytes-ne2.false, c.loop-i-test.false)) in
    roots_read c.args.list.now c.loop-i.buses.items c.as_slice.result.now c.of.result c.as_slice.ensures.value c.of.ensures.some c.of.ensures.buses
    c.loop-i.invariant.below (c.loop-i.invariant.text ∙ whole ∙ ap (λ l. 44 ∷ l) c.as_bytes-bytes.ensures.value)

pub returns-clause-only : goal.returns-clause-only
returns-clause-only c = roots_only c.args.list.now c.of.result (returns-clause-word c)

pub returns-then-bytes-ne2-clause-only : goal.returns-then-bytes-ne2-clause-only
returns-then-bytes-ne2-clause-only c = roots_only c.args.list.now None (returns-then-bytes-ne2-clause-word c)

pub returns-then-bytes-i-ne44-clause-only : goal.returns-then-bytes-i-ne44-clause-only
returns-then-bytes-i-ne44-clause-only c = roots_only c.args.list.now None (returns-then-bytes-i-ne44-clause-word c)

pub returns-in_err-bus_of-clause-only : goal.returns-in_err-bus_of-clause-only
returns-in_err-bus_of-clause-only c = roots_only c.args.list.now c.from_residual.result (returns-in_err-bus_of-clause-word c)
