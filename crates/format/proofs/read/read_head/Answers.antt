use Rattle.std.proofs.Common.{rules}
use Rattle.std.proofs.lemmas.Result.{err_from_is_err_and}
use Rattle.format.specs.Kinds.{head_form}
use Rattle.format.proofs.Joining.{come_none, come_byte, no_byte_here, faulty_here, whole_faulty}
use Rattle.format.proofs.read.read_head.Goals as goal

pub returns-in_err-cards : goal.returns-in_err-cards
returns-in_err-cards c =
    let p = err_from_is_err_and c.from_residual-in_err-cards.result c.from_residual-in_err-cards.ensures.1 in
    let start = c.new-cursor.ensures in
    let none = come_none head_form c.new-cursor.result in
    let byte = come_byte (search rules) c.in_ok-byte.ensures.1 none in
    let deck = come_byte (search rules) c.in_ok-deck.ensures.1 byte in
    rw (p.1, p.2) (whole_faulty c.new-cursor.result start.line start.at start.rest (no_byte_here (search rules) deck))

pub returns-in_err-players : goal.returns-in_err-players
returns-in_err-players c =
    let p = err_from_is_err_and c.from_residual-in_err-players.result c.from_residual-in_err-players.ensures.1 in
    let start = c.new-cursor.ensures in
    let none = come_none head_form c.new-cursor.result in
    let byte = come_byte (search rules) c.in_ok-byte.ensures.1 none in
    let deck = come_byte (search rules) c.in_ok-deck.ensures.1 byte in
    let cards = come_byte (search rules) c.in_ok-cards.ensures.1 deck in
    rw (p.1, p.2) (whole_faulty c.new-cursor.result start.line start.at start.rest (no_byte_here (search rules) cards))

pub returns-in_err-function : goal.returns-in_err-function
returns-in_err-function c =
    let p = err_from_is_err_and c.from_residual-in_err-function.result c.from_residual-in_err-function.ensures.1 in
    let start = c.new-cursor.ensures in
    let none = come_none head_form c.new-cursor.result in
    let byte = come_byte (search rules) c.in_ok-byte.ensures.1 none in
    let deck = come_byte (search rules) c.in_ok-deck.ensures.1 byte in
    let cards = come_byte (search rules) c.in_ok-cards.ensures.1 deck in
    let players = come_byte (search rules) c.in_ok-players.ensures.1 cards in
    rw (p.1, p.2) (whole_faulty c.new-cursor.result start.line start.at start.rest (no_byte_here (search rules) players))

pub returns-in_err-output : goal.returns-in_err-output
returns-in_err-output c =
    let p = err_from_is_err_and c.from_residual-in_err-output.result c.from_residual-in_err-output.ensures.1 in
    let start = c.new-cursor.ensures in
    let none = come_none head_form c.new-cursor.result in
    let byte = come_byte (search rules) c.in_ok-byte.ensures.1 none in
    let deck = come_byte (search rules) c.in_ok-deck.ensures.1 byte in
    let cards = come_byte (search rules) c.in_ok-cards.ensures.1 deck in
    let players = come_byte (search rules) c.in_ok-players.ensures.1 cards in
    let function = come_byte (search rules) c.in_ok-function.ensures.1 players in
    rw (p.1, p.2) (whole_faulty c.new-cursor.result start.line start.at start.rest (no_byte_here (search rules) function))

pub returns-in_err-end : goal.returns-in_err-end
returns-in_err-end c =
    let p = err_from_is_err_and c.from_residual-in_err-end.result c.from_residual-in_err-end.ensures.1 in
    let start = c.new-cursor.ensures in
    let none = come_none head_form c.new-cursor.result in
    let byte = come_byte (search rules) c.in_ok-byte.ensures.1 none in
    let deck = come_byte (search rules) c.in_ok-deck.ensures.1 byte in
    let cards = come_byte (search rules) c.in_ok-cards.ensures.1 deck in
    let players = come_byte (search rules) c.in_ok-players.ensures.1 cards in
    let function = come_byte (search rules) c.in_ok-function.ensures.1 players in
    let output = come_byte (search rules) c.in_ok-output.ensures.1 function in
    rw (p.1, p.2) (whole_faulty c.new-cursor.result start.line start.at start.rest (faulty_here c.in_err-end.ensures output))
