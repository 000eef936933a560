-- Numbers in decimal.
-- Definitions.
pub mod Input
pub mod Scan
pub mod Decimal
pub mod Puts
-- The scan gives the words of the input.
pub mod TokenLaws
pub mod ScanIsWordsIn
-- Printed numbers are read as those numbers.
pub mod DecimalLaws
-- The code of the scan.
pub mod State
pub mod ScanLaws
-- The code of the text.
pub mod TextLaws
pub mod Examples
