use Rattle.std.proofs.Common.{Ok, Err}
use Rattle.std.proofs.lemmas.Result.{err_from_is_err_and}
use Rattle.pci_number.proofs.Few.{few_at_hush, few_at_walk}
use Rattle.pci_number.proofs.Roots.{kept_at_hush, kept_at_walk, kept_at_end, answer_of}
use Rattle.pci_number.proofs.Throughout.{throughout_hush, throughout_walk, end_single}
use Rattle.pci_number.proofs.number.number.Goals as goal

pub returns-in_err-hush-clause-kept : goal.returns-in_err-hush-clause-kept
returns-in_err-hush-clause-kept g c =
    let board = g.P.BoardPort.board in
    kept_at_hush (board c.args.port.now) (board c.hush.new.port) c.args.root c.args.last c.in_err-hush.ensures.left

pub returns-in_err-walk-clause-kept : goal.returns-in_err-walk-clause-kept
returns-in_err-walk-clause-kept g c =
    let board = g.P.BoardPort.board in
    kept_at_walk c.args.spare (board c.args.port.now) (board c.hush.new.port) (board c.number_bus.new.port) c.args.root c.args.last c.in_ok-hush.field-0 c.in_ok-hush.ensures.hushed c.in_err-walk.ensures.left

pub returns-clause-answer : goal.returns-clause-answer
returns-clause-answer g c =
    let board = g.P.BoardPort.board in
    answer_of c.args.spare (board c.args.port.now) (board c.hush.new.port) (board c.number_bus.new.port) c.args.root c.args.last c.in_ok-hush.field-0 c.in_ok-walk.walk c.answer.result
    c.in_ok-hush.ensures.hushed c.in_ok-walk.ensures.numbered c.answer.ensures.without c.answer.ensures.highest

pub returns-clause-kept : goal.returns-clause-kept
returns-clause-kept g c =
    let board = g.P.BoardPort.board in
    kept_at_end c.args.spare (board c.args.port.now) (board c.hush.new.port) (board c.number_bus.new.port) c.args.root c.args.last c.in_ok-hush.field-0 c.in_ok-walk.walk c.in_ok-hush.ensures.hushed c.in_ok-walk.ensures.numbered

pub returns-in_err-hush-clause-few : goal.returns-in_err-hush-clause-few
returns-in_err-hush-clause-few g c =
    let writes = g.P.BoardPort.writes in
    few_at_hush (g.P.BoardPort.board c.args.port.now) c.args.root c.args.last (writes c.args.port.now) (writes c.hush.new.port) c.in_err-hush.ensures.few

pub returns-in_err-walk-clause-few : goal.returns-in_err-walk-clause-few
returns-in_err-walk-clause-few g c =
    let board = g.P.BoardPort.board in
    let writes = g.P.BoardPort.writes in
    few_at_walk c.args.spare (board c.args.port.now) (board c.hush.new.port) c.args.root c.args.last c.in_ok-hush.field-0 (writes c.args.port.now) (writes c.hush.new.port) (writes c.number_bus.new.port)
    c.in_ok-hush.ensures.hushed c.in_ok-hush.ensures.few c.in_err-walk.ensures.few

pub returns-clause-few : goal.returns-clause-few
returns-clause-few g c =
    let board = g.P.BoardPort.board in
    let writes = g.P.BoardPort.writes in
    few_at_walk c.args.spare (board c.args.port.now) (board c.hush.new.port) c.args.root c.args.last c.in_ok-hush.field-0 (writes c.args.port.now) (writes c.hush.new.port) (writes c.number_bus.new.port)
    c.in_ok-hush.ensures.hushed c.in_ok-hush.ensures.few c.in_ok-walk.ensures.few

pub returns-in_err-hush-clause-single : goal.returns-in_err-hush-clause-single
returns-in_err-hush-clause-single g c =
    let history = g.P.BoardPort.history in
    let p = err_from_is_err_and c.from_residual.result c.from_residual.ensures.1 in
    rw p.1 (throughout_hush (g.P.BoardPort.board c.args.port.now) c.args.root c.args.last (history c.args.port.now) (history c.hush.new.port) p.0 c.in_err-hush.ensures.stood)

pub returns-in_err-walk-clause-single : goal.returns-in_err-walk-clause-single
returns-in_err-walk-clause-single g c =
    let board = g.P.BoardPort.board in
    let history = g.P.BoardPort.history in
    let p = err_from_is_err_and c.from_residual-in_err-walk.result c.from_residual-in_err-walk.ensures.1 in
    rw p.1 (throughout_walk c.args.spare (board c.args.port.now) (board c.hush.new.port) c.args.root c.args.last c.in_ok-hush.field-0 (history c.args.port.now) (history c.hush.new.port) (history c.number_bus.new.port)
    (Err p.0) c.in_ok-hush.ensures.hushed c.in_ok-hush.ensures.stood c.in_err-walk.ensures.stood)

pub returns-clause-single : goal.returns-clause-single
returns-clause-single g c =
    let board = g.P.BoardPort.board in
    let history = g.P.BoardPort.history in
    throughout_walk c.args.spare (board c.args.port.now) (board c.hush.new.port) c.args.root c.args.last c.in_ok-hush.field-0 (history c.args.port.now) (history c.hush.new.port) (history c.number_bus.new.port)
    (Ok c.answer.result) c.in_ok-hush.ensures.hushed c.in_ok-hush.ensures.stood c.in_ok-walk.ensures.stood

pub returns-clause-end : goal.returns-clause-end
returns-clause-end g c =
    let board = g.P.BoardPort.board in
    end_single c.args.spare (board c.args.port.now) (board c.hush.new.port) (board c.number_bus.new.port) c.args.root c.args.last c.in_ok-hush.field-0 c.in_ok-walk.walk c.in_ok-hush.ensures.hushed c.in_ok-walk.ensures.numbered
