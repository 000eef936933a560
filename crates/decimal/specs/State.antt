-- Where a scan of the code stands, and its slice as it is now.
use Rattle.decimal.specs.Scan.{ScanState, stands}
use Rattle.decimal.specs.declared.scan.Scan.{Scan}

abbrev pub state : Scan → ScanState
state scan = stands scan.at scan.words.now
