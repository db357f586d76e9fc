use Rattle.book.proofs.Reading.{latest-shows}
use Rattle.book.proofs.latest_shows.Goals as goal

pub returns : goal.returns
returns c = latest-shows
