-- A book may go to another thread, and be shared with one.
use denote.Param.Send.{IsSend, IsSync, sendable}
use Rattle.std.proofs.Crossing as own
use Rattle.pb_book.specs.contracts.book.Book as Book
use Rattle.pb_crossing.proofs.PlaysCross as plays

pub Book-field-send : IsSend (Book.the_field).row
Book-field-send = search (plays.crosses, own.crosses, sendable) depth 20

pub Book-field-sync : IsSync (Book.the_field).row
Book-field-sync = search (plays.crosses, own.crosses, sendable) depth 20

pub Book-send : IsSend Book.the_row
Book-send = search (Book-field-send, sendable)

pub Book-sync : IsSync Book.the_row
Book-sync = search (Book-field-sync, sendable)

pub ruleset book = (Book-field-send, Book-field-sync, Book-send, Book-sync)

pub ruleset crosses = (book)
