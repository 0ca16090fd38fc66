use mathlib.Core.Path.{refl, sym}
use mathlib.Core.List.{[], ◌∷◌}
use Rattle.standard.specs.Base.{line_feeds}
use Rattle.standard.proofs.LineFeeds.{line_feeds-append}
use Rattle.reading.proofs.feed.feeds.Goals as goal

pub returns-in-Error : goal.returns-in-Error
unfolding line_feeds
returns-in-Error c = rw c.in-Error.is refl

pub returns-in-Nothing : goal.returns-in-Nothing
unfolding line_feeds
returns-in-Nothing c = rw c.in-Nothing.is refl

pub returns-in-Two : goal.returns-in-Two
returns-in-Two c =
    let two = c.in-Two in
    rw (two.is, c.one_scalar-in-Two.ensures, c.one_scalar-in-Two-2.ensures) (sym (line_feeds-append (two.first ∷ []) (two.second ∷ [])))
