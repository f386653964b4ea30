use Rattle.std.proofs.Common.{◌≡◌, ◌≤◌, Less, Greater, length}
use Rattle.std.specs.List.{insert}
use Rattle.std.specs.List.Sorted.{IsPartitionPoint, IsNonDecreasingBy}
use Rattle.std.specs.Ordering.{ordering_index}
use Rattle.problem.specs.Listing.{reading_order}
use Rattle.problem.proofs.ReadingOrder.{put_rising, put_adds}
use Rattle.problem.proofs.readings.insert_reading.Goals as goal

pub returns-in-Err-clause-rising : goal.returns-in-Err-clause-rising
returns-in-Err-clause-rising c =
    let seen : c.as_slice.result.now ≡ c.args.readings.now.items = c.as_slice.ensures.value in
    let parted : IsNonDecreasingBy (λ y. ordering_index (reading_order y c.args.reading)) c.as_slice.result.now →
    IsPartitionPoint (λ y. reading_order y c.args.reading ≡ Less) (λ y. reading_order y c.args.reading ≡ Greater) c.as_slice.result.now c.in-Err.place = c.in-Err.ensures.position in
    let within : c.in-Err.place ≤ length c.as_slice.result.now = c.in-Err.ensures.bound in
    let is : c.insert.new.self.items ≡ insert c.args.readings.now.items c.in-Err.place c.args.reading = let ok = c.insert.ensures.succeeds c.requires.room in rw ok at c.insert.ensures.items in
    rw is (put_rising _ _ _ (rw seen at within) c.requires.rising (rw seen at parted))

pub returns-in-Err-clause-adds : goal.returns-in-Err-clause-adds
returns-in-Err-clause-adds c =
    let seen : c.as_slice.result.now ≡ c.args.readings.now.items = c.as_slice.ensures.value in
    let within : c.in-Err.place ≤ length c.as_slice.result.now = c.in-Err.ensures.bound in
    let is : c.insert.new.self.items ≡ insert c.args.readings.now.items c.in-Err.place c.args.reading = let ok = c.insert.ensures.succeeds c.requires.room in rw ok at c.insert.ensures.items in
    rw is (put_adds _ _ _ (rw seen at within))
