mod TextFits
