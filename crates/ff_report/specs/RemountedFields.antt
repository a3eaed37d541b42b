-- What the variants of a remount's outcome show.
use Rattle.ff_report.specs.Remounted.{RemountedView, Found, Faulted, Cut}
use Rattle.ff_report.specs.declared.parts.Remounted.{Remounted}
use Rattle.ff_report.specs.declared.parts.Remounted.TheVariants.{Image, Fault, Off}

abbrev pub remounted_view : Remounted → RemountedView
remounted_view (Image image) = Found image.now
remounted_view Fault = Faulted
remounted_view Off = Cut
